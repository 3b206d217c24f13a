use Rattle.rd_equivalence.proofs.Converse.{equivalent-sym}
use Rattle.rd_equivalence.proofs.laws.equivalence_is_symmetric.Goals as goal

pub returns : goal.returns
returns c = equivalent-sym
