use Rattle.rd_depend.proofs.Prelude.{arith, row_in}
use Rattle.rd_depend.proofs.IndexTable.{row-within}
use Rattle.rd_depend.proofs.index.table.Table.row_of.Goals as goal

pub returns-then-has_key_at : goal.returns-then-has_key_at
returns-then-has_key_at c = grind (arith, row-within)

pub returns-clause-row : goal.returns-clause-row
unfolding row_in
returns-clause-row c = c.get_index_of.ensures.index
