use Rattle.std.proofs.Common.{◌≡◌, ◌+◌, suc, sym, arith}
use Rattle.rd_marks.proofs.Moving.{greatest_next}
use Rattle.rd_marks.proofs.bookmarks.keeping.greatest_len_in_stretch.Goals as goal

pub loop-index-preserved : goal.loop-index-preserved
loop-index-preserved c =
    let k = c.loop-index.index in
    let e : k + 1 ≡ suc k = omega arith in
    let next = greatest_next c.args.i k c.args.names.now.entries (c.in-Some.field-0-0.now, c.in-Some.node.now) (sym c.in-Some.ensures.entry) in
    rw e (record { greatest = omega (arith, c.max-greatest.ensures, c.len_in_stretch.ensures, c.loop-index.invariant.greatest, next) })
