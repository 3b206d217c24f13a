use Rattle.std.proofs.Common.{◌≢◌, ℕ, ◌<◌, get_or}
use Rattle.rd_actor.specs.declared.actors.Pc.TheVariants.{Idle}
use Rattle.rd_actor.specs.Labels.{label}
use Rattle.rd_actor.proofs.actors.Pc.of_label.Given as goal

-- no control point before this one has the word as its label
abbrev pub invariant-loop-pc : goal.invariant-loop-pc
invariant-loop-pc l = (k : ℕ) → k < l.pc-index → label (get_or l.pc-items k Idle) ≢ l.word
