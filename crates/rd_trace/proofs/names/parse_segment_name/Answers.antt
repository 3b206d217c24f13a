use Rattle.rd_trace.proofs.Prelude.{arith}
use Rattle.rd_trace.proofs.NumberLemmas.{spells_no_name}
use Rattle.rd_trace.proofs.names.parse_segment_name.Goals as goal

pub returns-in_default : goal.returns-in_default
returns-in_default c = grind (arith, spells_no_name)

pub returns-in_default-2 : goal.returns-in_default-2
returns-in_default-2 c = grind (arith, spells_no_name)
