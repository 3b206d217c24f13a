use Rattle.std.proofs.Common.{arith}
use Rattle.rd_step.proofs.WorldLemmas.{few_actors, actor_within}
use Rattle.rd_step.proofs.Actors.{numbered-within}
use Rattle.rd_step.proofs.worlds.World.actors.Goals as goal

pub overflow_cast-result : goal.overflow_cast-result
overflow_cast-result g c = grind (arith, few_actors)

pub returns-clause-within : goal.returns-clause-within
returns-clause-within g c = grind (arith, few_actors)

pub returns-clause-count : goal.returns-clause-count
returns-clause-count g c = grind (arith, actor_within)

pub returns-clause-some : goal.returns-clause-some
returns-clause-some g c = let some = numbered-within c.args.self.now.actors.items 1 c.args.self.now.well_formed.numbered.first in omega arith
