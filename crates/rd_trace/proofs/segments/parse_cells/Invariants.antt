use Rattle.rd_trace.proofs.SegmentLemmas.{AreRead}
use Rattle.rd_trace.proofs.segments.parse_cells.Given as goal

-- the cells so far are those of the values before this one
abbrev pub invariant-loop-i : goal.invariant-loop-i
invariant-loop-i g l = AreRead g.row.R l.list.items l.cells l.i
