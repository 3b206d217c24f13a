use Rattle.std.proofs.Common.{arith}
use Rattle.rd_depend.proofs.IndexWriters.{last-among}
use Rattle.rd_depend.proofs.index.positions.Positions.last_up_to.Goals as goal

pub returns-then-number-gt0-clause-last : goal.returns-then-number-gt0-clause-last
returns-then-number-gt0-clause-last c = grind (arith, last-among)

pub returns-else-number-gt0-clause-last : goal.returns-else-number-gt0-clause-last
returns-else-number-gt0-clause-last c = grind arith
