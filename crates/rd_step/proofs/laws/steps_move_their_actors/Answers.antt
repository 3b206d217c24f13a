use Rattle.rd_step.proofs.Progress.{moves_on}
use Rattle.rd_step.proofs.laws.steps_move_their_actors.Goals as goal

pub returns : goal.returns
returns c = moves_on
