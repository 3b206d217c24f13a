use Rattle.rd_step.proofs.Keeps.{step_keeps_well_formed}
use Rattle.rd_step.proofs.laws.steps_keep_worlds_well_formed.Goals as goal

pub returns : goal.returns
returns c = step_keeps_well_formed
