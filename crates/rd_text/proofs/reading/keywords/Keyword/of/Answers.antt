use Rattle.std.proofs.Common.{arith}
use Rattle.rd_text.proofs.KeywordLemmas.{none_of_keywords}
use Rattle.rd_text.proofs.reading.keywords.Keyword.of.Goals as goal

pub returns-clause-none : goal.returns-clause-none
returns-clause-none c = none_of_keywords c.args.word.now (λ k below. c.loop-keyword.invariant k (omega arith))
