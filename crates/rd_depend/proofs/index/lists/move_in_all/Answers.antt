use Rattle.rd_depend.proofs.Prelude.{arith, slice_get_past}
use Rattle.rd_depend.proofs.IndexLists.{none_moved}
use Rattle.rd_depend.proofs.index.lists.move_in_all.Goals as goal

pub returns-clause-lists : goal.returns-clause-lists
returns-clause-lists c = grind (arith, none_moved, slice_get_past)
