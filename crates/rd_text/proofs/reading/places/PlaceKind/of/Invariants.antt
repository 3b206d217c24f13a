use Rattle.rd_text.proofs.Prelude.{◌≢◌, ℕ, ◌<◌, slice_index_or, kind_text}
use Rattle.rd_text.specs.declared.reading.places.PlaceKind.TheVariants as kind
use Rattle.rd_text.proofs.reading.places.PlaceKind.of.Given as goal

-- the word is none of the kinds before this one
abbrev pub invariant-loop-kind : goal.invariant-loop-kind
invariant-loop-kind l = (k : ℕ) → k < l.kind-index → l.word ≢ kind_text (slice_index_or l.kind-items k kind.QHead)
