use Rattle.std.proofs.Common.{◌-◌, ◌∙◌, refl, arith}
use Rattle.rd_marks.proofs.Putting.{pruned_from_end, prunings_compose}
use Rattle.rd_marks.proofs.bookmarks.keeping.prune.Goals as goal

pub loop-i-init : goal.loop-i-init
loop-i-init c = record { below = omega (arith, c.len-i.ensures); pruned = rw c.len-i.ensures (pruned_from_end _ _ _ c.requires.within c.requires.here); room = refl }

pub loop-i-preserved : goal.loop-i-preserved
loop-i-preserved c = record { below = c.prune_stretch.ensures.below; pruned = prunings_compose (c.loop-i.i - 1) c.loop-i.i _ _ _ _ _ _ _ _ _ c.loop-i.invariant.pruned c.prune_stretch.ensures.pruned; room = c.prune_stretch.ensures.room ∙ c.loop-i.invariant.room }
