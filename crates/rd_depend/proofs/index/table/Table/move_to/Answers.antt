use Rattle.std.proofs.Common.{refl}
use Rattle.rd_depend.proofs.IndexTable.{moves}
use Rattle.rd_depend.proofs.index.table.Table.move_to.Goals as goal

pub returns : goal.returns
returns c = moves _ _ c.args.k c.args.n refl c.move_in_all.ensures.lists c.move_in_all-2.ensures.lists c.move_in_all.ensures.capacity c.move_in_all-2.ensures.capacity
