use Rattle.rd_desk.proofs.OwnCalls.{own_answered, own_refused}
use Rattle.rd_desk.proofs.laws.own_calls_grow_by_the_answered_one.Goals as goal

pub returns-clause-answered : goal.returns-clause-answered
returns-clause-answered c opened viewer old new command answer is = own_answered opened viewer old new command answer is

pub returns-clause-refused : goal.returns-clause-refused
returns-clause-refused c opened viewer old new command refusal is = own_refused opened viewer old new command refusal is
