use Rattle.rd_trace.proofs.Prelude.{arith}
use Rattle.rd_trace.proofs.SegmentLemmas.{spells_no_cell}
use Rattle.rd_trace.proofs.segments.CellPlain.parse_value.Goals as goal

pub returns-in_default-clause-none : goal.returns-in_default-clause-none
returns-in_default-clause-none c = grind (arith, spells_no_cell)

pub returns-in_default-2-clause-none : goal.returns-in_default-2-clause-none
returns-in_default-2-clause-none c = grind (arith, spells_no_cell)
