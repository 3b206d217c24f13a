use Rattle.rd_depend.proofs.Closures.{closure_goes_out}
use Rattle.rd_depend.proofs.laws.lone_undos_that_take_a_step_out_take_its_closure_out.Goals as goal

pub returns : goal.returns
returns c = closure_goes_out
