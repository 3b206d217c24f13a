use Rattle.rd_marks.proofs.Prelude.{◌∙◌, List, sym, ap, slice_get, arith, values_of, MarkName, Node, shifted, CanShiftUp, take_all, drop_all, append-nil}
use Rattle.rd_marks.proofs.Moving.{changed_next, value_next}
use Rattle.rd_marks.proofs.bookmarks.keeping.shift_nodes.Goals as goal

pub shifted-requires : goal.shifted-requires
shifted-requires c =
    let i = c.loop-index.index in
    value_next (shifted c.args.shift) CanShiftUp i c.args.names.now.entries c.index.result.now c.requires
    (ap (λ (es : List (MarkName × Node)). slice_get (values_of es) i) (sym c.loop-index.invariant.entries) ∙ c.index.ensures)

pub loop-index-preserved : goal.loop-index-preserved
loop-index-preserved c = grind (arith, changed_next (shifted c.args.shift) c.loop-index.index c.args.names.now.entries c.index.result.now)

pub returns-clause-entries : goal.returns-clause-entries
returns-clause-entries c = grind (arith, take_all, drop_all, append-nil, c.loop-index.invariant.entries, c.loop-index-test.false, c.len-index-end.ensures.len)
