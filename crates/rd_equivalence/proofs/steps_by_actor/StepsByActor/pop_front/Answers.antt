use Rattle.rd_equivalence.proofs.Prelude.{arith, slice_get-get_or}
use Rattle.rd_equivalence.proofs.ComparedSteps.{popped_or_none}
use Rattle.rd_equivalence.proofs.steps_by_actor.StepsByActor.pop_front.Goals as goal

pub returns-in-Some : goal.returns-in-Some
returns-in-Some c = grind (arith, slice_get-get_or, popped_or_none)
