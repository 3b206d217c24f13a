use Rattle.rd_depend.proofs.Prelude.{arith, prefix_len-le-length}
use Rattle.rd_depend.proofs.IndexLists.{halved, index-below_number, number-up_to_index}
use Rattle.rd_depend.proofs.index.positions.Positions.count_up_to.Goals as goal

pub loop-round-init : goal.loop-round-init
loop-round-init c = grind (arith, prefix_len-le-length)

pub returns-then-low-high-clause-count : goal.returns-then-low-high-clause-count
returns-then-low-high-clause-count c = λ h few. omega arith

pub look-requires-clause-within : goal.look-requires-clause-within
look-requires-clause-within c = omega arith

pub loop-round-preserved : goal.loop-round-preserved
loop-round-preserved c = grind (arith, halved, index-below_number, number-up_to_index)

pub returns-clause-count : goal.returns-clause-count
returns-clause-count c = grind arith
