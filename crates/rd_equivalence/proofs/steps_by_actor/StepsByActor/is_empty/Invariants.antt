use Rattle.rd_equivalence.proofs.Prelude.{◌≡◌, ℕ, ◌<◌, [], remaining_steps}
use Rattle.rd_equivalence.proofs.steps_by_actor.StepsByActor.is_empty.Given as goal

abbrev pub invariant-loop-steps : goal.invariant-loop-steps
invariant-loop-steps l = (n : ℕ) → n < l.steps-index → remaining_steps l.self n ≡ []
