use Rattle.rd_depend.proofs.Prelude.{arith, find_at, slice_get-get_or, slice_get_past}
use Rattle.rd_depend.proofs.index.positions.Positions.first_above.Goals as goal

pub returns-then-index-len-clause-first : goal.returns-then-index-len-clause-first
returns-then-index-len-clause-first c = grind (arith, find_at, slice_get-get_or)

pub returns-else-index-len-clause-first : goal.returns-else-index-len-clause-first
returns-else-index-len-clause-first c = grind (arith, find_at, slice_get_past)
