use Rattle.rd_marks.proofs.Prelude.{◌≡◌, max, drop, nodes_of, greatest_len_in_stretch}
use Rattle.rd_marks.proofs.bookmarks.keeping.greatest_len_in_stretch.Given as goal

abbrev pub invariant-loop-index : goal.invariant-loop-index
invariant-loop-index l = record { greatest : max l.greatest (greatest_len_in_stretch l.i (nodes_of (drop l.index l.names.entries))) ≡ greatest_len_in_stretch l.i (nodes_of l.names.entries) }
