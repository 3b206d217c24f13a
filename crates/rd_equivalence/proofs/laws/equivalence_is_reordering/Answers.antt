use Rattle.rd_equivalence.proofs.Reordering.{equivalent_reordered}
use Rattle.rd_equivalence.proofs.laws.equivalence_is_reordering.Goals as goal

pub returns : goal.returns
returns c = equivalent_reordered
