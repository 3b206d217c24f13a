use Rattle.std.proofs.Common.{arith}
use Rattle.rd_text.proofs.KeywordLemmas.{none_of_kinds}
use Rattle.rd_text.proofs.reading.places.PlaceKind.of.Goals as goal

pub returns-clause-none : goal.returns-clause-none
returns-clause-none c = none_of_kinds c.args.word.now (λ k below. c.loop-kind.invariant k (omega arith))
