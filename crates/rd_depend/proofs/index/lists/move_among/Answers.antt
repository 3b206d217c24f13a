use Rattle.std.proofs.Common.{refl, arith}
use Rattle.rd_depend.proofs.IndexLists.{moved, unmoved}
use Rattle.rd_depend.proofs.index.lists.move_among.Goals as goal

pub returns : goal.returns
returns c = moved c.args.k c.args.n _ _ c.args.positions.now _ _ c.requires.some c.requires.order c.count_up_to-start.ensures.count c.count_up_to.ensures.count c.lower_and_rotate.ensures refl

pub returns-then-start-positions : goal.returns-then-start-positions
returns-then-start-positions c = unmoved c.args.k c.args.n c.count_up_to-start.result c.args.positions.now c.requires.some c.requires.order c.count_up_to-start.ensures.count (omega arith)
