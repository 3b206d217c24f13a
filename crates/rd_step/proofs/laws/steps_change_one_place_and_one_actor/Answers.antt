use Rattle.rd_step.proofs.Progress.{changes_only}
use Rattle.rd_step.proofs.laws.steps_change_one_place_and_one_actor.Goals as goal

pub returns : goal.returns
returns c = changes_only
