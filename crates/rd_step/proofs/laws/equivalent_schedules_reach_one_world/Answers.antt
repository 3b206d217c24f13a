use Rattle.rd_step.proofs.Equivalence.{reach_the_same}
use Rattle.rd_step.proofs.laws.equivalent_schedules_reach_one_world.Goals as goal

pub returns : goal.returns
returns c = reach_the_same
