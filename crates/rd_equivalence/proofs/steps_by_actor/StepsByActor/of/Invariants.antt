use Rattle.rd_equivalence.proofs.Prelude.{◌≡◌, ℕ, ◌+◌, ◌≤◌, length, drop, by_actor, remaining_steps, enumerate_from}
use Rattle.rd_equivalence.proofs.steps_by_actor.StepsByActor.of.Given as goal

abbrev pub invariant-loop-index : goal.invariant-loop-index
invariant-loop-index l = record {
  number : length l.steps.steps.items ≡ 256;
  within : l.index ≤ length l.entries;
  left : (n : ℕ) → remaining_steps l.steps n ≡ by_actor n (enumerate_from (l.index + 1) (drop l.index l.entries));
}

abbrev pub decreases-loop-index : goal.decreases-loop-index
decreases-loop-index l = l.index
