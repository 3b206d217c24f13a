-- Headings: lines of a view's report that answer no line; and the refusals with which viewers end.
use Rattle.std.specs.Prelude.{ℕ, List, [], ◌∷◌, ◌++◌, codes, Err}
use Rattle.rd_text.specs.declared.answers.AnyRefusal.{AnyRefusal}
use Rattle.rd_text.specs.declared.writing.headings.Heading.{Heading}
use Rattle.rd_text.specs.declared.writing.headings.Heading.TheVariants.{Viewer, History}
use Rattle.rd_text.specs.Replies.{answer_text}
use Rattle.rd_text.specs.Texts.{spaced_number}

-- the words of a heading: `viewer` with its number, or `history` with the number of recorded calls
abbrev pub heading_words : Heading → List ℕ
heading_words (Viewer number) = codes "viewer" ++ spaced_number number
heading_words (History calls) = codes "history" ++ spaced_number calls

-- the line of a heading, with its line feed
abbrev pub heading_text : Heading → List ℕ
heading_text heading = heading_words heading ++ 10 ∷ []

-- the line of a refusal with which this viewer ended: `viewer` with its number, a colon and a space,
-- and the line that answers with the refusal
abbrev pub viewer_refusal_text : ℕ → AnyRefusal → List ℕ
viewer_refusal_text viewer cause = heading_words (Viewer viewer) ++ codes ": " ++ answer_text (Err cause)
