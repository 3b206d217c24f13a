use Rattle.rd_journal.proofs.Prelude.{common_steps, length-take-le, arith}
use Rattle.rd_journal.proofs.Calls.{forward_start}
use Rattle.rd_journal.proofs.sessions.Session.redo_ahead.Goals as goal

pub invariant_of-self : goal.invariant_of-self
invariant_of-self g c = record { kept = c.args.self.now.kept; within = c.requires.within; indexed = c.args.self.now.indexed }

pub redo_front-requires : goal.redo_front-requires
redo_front-requires g c = grind (arith, length-take-le)

pub returns-clause-entries : goal.returns-clause-entries
returns-clause-entries g c = grind (arith, common_steps)

pub returns-clause-start : goal.returns-clause-start
returns-clause-start g c = forward_start _ c.args.n _ c.redo_front.ensures.state
