-- What it means to append words to a text of fixed capacity.
use Rattle.std.specs.Prelude.{◌≡◌, ℕ, ◌+◌, ◌≤◌, List, ◌++◌, length}
use Rattle.rd_text.specs.declared.writing.texts.TheConstants.{MOST_TEXT_BYTES}

-- if there was room for them, the words were appended to the text
abbrev pub Puts : List ℕ → List ℕ → List ℕ → Type 0
Puts old new words = length old + length words ≤ MOST_TEXT_BYTES → new ≡ old ++ words

-- if there was room for them, the words were appended to the text; they have at most this many
-- bytes
abbrev pub PutsUpTo : ℕ → List ℕ → List ℕ → List ℕ → Type 0
PutsUpTo most old new words = Puts old new words × (length words ≤ most)
