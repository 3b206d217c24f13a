use Rattle.rd_equivalence.proofs.Converse.{equivalent_through}
use Rattle.rd_equivalence.proofs.laws.equivalence_is_transitive.Goals as goal

pub returns : goal.returns
returns c = equivalent_through
