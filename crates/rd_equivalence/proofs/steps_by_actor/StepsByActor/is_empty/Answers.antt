use Rattle.rd_equivalence.proofs.Prelude.{nil_from_length, slice_get-get_or}
use Rattle.std.proofs.Common.{arith}
use Rattle.rd_equivalence.proofs.ComparedSteps.{none_left_past_end}
use Rattle.rd_equivalence.proofs.steps_by_actor.StepsByActor.is_empty.Goals as goal

pub loop-steps-preserved : goal.loop-steps-preserved
loop-steps-preserved c n within = grind (arith, slice_get-get_or, nil_from_length)

pub returns : goal.returns
returns c = grind (arith, none_left_past_end)
