use Rattle.rd_text.proofs.Prelude.{◌≢◌, ℕ, ◌<◌, slice_index_or, keyword_text}
use Rattle.rd_text.specs.declared.reading.keywords.Keyword.TheVariants as keyword
use Rattle.rd_text.proofs.reading.keywords.Keyword.of.Given as goal

-- the word is none of the keywords before this one
abbrev pub invariant-loop-keyword : goal.invariant-loop-keyword
invariant-loop-keyword l = (k : ℕ) → k < l.keyword-index → l.word ≢ keyword_text (slice_index_or l.keyword-items k keyword.Go)
