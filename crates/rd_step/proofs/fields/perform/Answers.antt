use Rattle.rd_step.proofs.Prelude.{arith, keeps_uses}
use Rattle.rd_step.proofs.fields.perform.Goals as goal

pub returns-in-NoPlace-clause-ok : goal.returns-in-NoPlace-clause-ok
returns-in-NoPlace-clause-ok g c = grind arith

pub returns-in-At-clause-ok : goal.returns-in-At-clause-ok
returns-in-At-clause-ok g c = grind arith

pub returns-in-At-clause-room : goal.returns-in-At-clause-room
returns-in-At-clause-room g c = grind (arith, keeps_uses)

pub returns-in-Make-clause-room : goal.returns-in-Make-clause-room
returns-in-Make-clause-room g c = grind arith
