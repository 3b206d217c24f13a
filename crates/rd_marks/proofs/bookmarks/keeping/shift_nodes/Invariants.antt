use Rattle.rd_marks.proofs.Prelude.{◌≡◌, spare, shifted}
use Rattle.rd_marks.proofs.Moving.{changed}
use Rattle.rd_marks.proofs.bookmarks.keeping.shift_nodes.Given as goal

abbrev pub invariant-loop-index : goal.invariant-loop-index
invariant-loop-index l = record {
  room : spare l.names ≡ spare l.fn.names;
  entries : l.names.entries ≡ changed (shifted l.fn.shift) l.index l.fn.names.entries;
}
