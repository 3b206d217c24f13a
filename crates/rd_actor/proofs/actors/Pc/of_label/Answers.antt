use Rattle.std.proofs.Common.{◌≢◌, arith}
use Rattle.rd_actor.specs.Labels.{label}
use Rattle.rd_actor.proofs.PointLemmas.{each_point}
use Rattle.rd_actor.proofs.actors.Pc.of_label.Goals as goal

pub returns-clause-none : goal.returns-clause-none
returns-clause-none c = each_point (λ pc. label pc ≢ c.args.word.now) (λ k below. c.loop-pc.invariant k (omega arith))
