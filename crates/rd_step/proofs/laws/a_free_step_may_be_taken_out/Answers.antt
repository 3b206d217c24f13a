use Rattle.rd_step.proofs.Removal.{removes}
use Rattle.rd_step.proofs.laws.a_free_step_may_be_taken_out.Goals as goal

pub returns : goal.returns
returns c = removes
