use Rattle.std.proofs.Common.{arith}
use Rattle.rd_depend.proofs.IndexTable.{key-row}
use Rattle.rd_depend.proofs.index.table.Table.has_key_at.Goals as goal

pub returns : goal.returns
returns c = grind (arith, key-row)
