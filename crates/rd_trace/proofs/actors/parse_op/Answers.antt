use Rattle.rd_trace.proofs.Prelude.{arith}
use Rattle.rd_trace.proofs.ActorLemmas.{spells_no_op}
use Rattle.rd_trace.proofs.actors.parse_op.Goals as goal

pub returns-in_default-4 : goal.returns-in_default-4
returns-in_default-4 c = grind (arith, spells_no_op)
