-- The texts of the parts of a trace, from which its text is put together. No public clause cites
-- them.
use Rattle.std.specs.Prelude.{◌≡◌, ℕ, List, [], ◌++◌, Bool, true, false, Some}
use Rattle.json.specs.Tree.{HasNumbers}
use Rattle.serde_json.specs.Data.{Data, Items, no_items, item}
use Rattle.serde_json.specs.Read.{of_json}
use Rattle.serde_json.specs.Written.{outline, compact_text, comma_if}
use Rattle.rd_step.specs.Prelude.{World}
use Rattle.rd_marks.specs.BookState.{Mark}
use Rattle.rd_trace.specs.Spelled.{SpellEach, items_by}
use Rattle.rd_trace.specs.Starts.{IsStartValue}
use Rattle.rd_trace.specs.Bookmarks.{SpellsMark, mark_data}

-- the texts of JSON values with commas between them, and with one before the first value if it
-- comes later in its list
abbrev pub joined_text : Bool → Items → List ℕ
joined_text later no_items = []
joined_text later (item d ds) = comma_if later ++ (compact_text d ++ joined_text true ds)

-- each number of d has a JSON text, and reading the written value gives d
pub record IsReadBack (d : Data) : Type 0 where
  pub numbers : HasNumbers (outline d)
  pub back : of_json (outline d) ≡ Some d

-- a JSON value spells a thing, as `Spells` says, and is read back as itself
pub record IsSpelledBack {X : Type 0} (Spells : Data → X → Type 0) (d : Data) (x : X) : Type 0 where
  pub spelled : Spells d x
  pub back : IsReadBack d

-- the texts of things, with commas between them, were appended to a text; the JSON value that
-- `datum` gives for each thing spells it and is read back (`kept`)
pub record AreAppended {X : Type 0} (Spells : Data → X → Type 0) (datum : X → Data) (xs : List X) (old new : List ℕ) : Type 0 where
  pub text : new ≡ old ++ joined_text false (items_by datum xs)
  pub kept : SpellEach (IsSpelledBack Spells) (items_by datum xs) xs

-- the text of a bookmark was appended to a text; the bookmark's JSON value spells it and is read
-- back (`kept`)
pub record IsMarkAppended (m : Mark) (old new : List ℕ) : Type 0 where
  pub text : new ≡ old ++ compact_text (mark_data m)
  pub kept : IsSpelledBack SpellsMark (mark_data m) m

-- the text of a JSON value was appended to a text; the start in this world may be written as this
-- value, which spells it and is read back
pub record IsStartAppended (w : World) (old new : List ℕ) : Type 0 where
  pub start : Data
  pub is_start : IsStartValue w start
  pub back : IsReadBack start
  pub text : new ≡ old ++ compact_text start
