use Rattle.rd_trace.proofs.Prelude.{arith}
use Rattle.rd_trace.proofs.SpellLemmas.{spelled_length, spell_each-none}
use Rattle.rd_trace.proofs.SegmentLemmas.{one_more_cell, all_cells}
use Rattle.rd_trace.proofs.segments.parse_cells.Goals as goal

pub returns-then-len-clause-none : goal.returns-then-len-clause-none
returns-then-len-clause-none g c = grind (arith, spelled_length)

pub returns-in_err-cells-clause-none : goal.returns-in_err-cells-clause-none
returns-in_err-cells-clause-none g c = grind (arith, spell_each-none)

pub loop-i-preserved : goal.loop-i-preserved
loop-i-preserved g c =
    one_more_cell g.row.R c.args.list.now.items c.loop-i.cells c.loop-i.i c.loop-i.invariant c.index.result.now (omega arith) c.index.ensures c.in_ok-cells.field-0 (omega arith) c.in_ok-cells.ensures.some

pub returns-clause-some : goal.returns-clause-some
returns-clause-some g c = grind (arith, all_cells)
