use Rattle.rd_depend.proofs.Prelude.{arith, common_steps}
use Rattle.rd_depend.proofs.IndexTable.{absent, keeps_pushed, row_last}
use Rattle.rd_depend.proofs.index.table.Table.search_or_add.Goals as goal

pub invariant_of-self-2 : goal.invariant_of-self-2
invariant_of-self-2 c = grind (arith, common_steps, absent)

pub returns-clause-same : goal.returns-clause-same
returns-clause-same c = grind (arith, keeps_pushed)

pub returns-clause-row : goal.returns-clause-row
returns-clause-row c = grind (arith, row_last)
