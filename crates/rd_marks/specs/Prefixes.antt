-- The different prefixes of the events of marks, and the marks that need no new entry.
use Rattle.std.specs.Prelude.{◌≡◌, ◌↔◌, ℕ, ◌<◌, List, [], ◌∷◌, length}
use Rattle.std.specs.List.{Contains}
use Rattle.rd_step.specs.declared.entries.Event.{Event}
use Rattle.rd_equivalence.specs.Beginnings.{Begins}
use Rattle.rd_marks.specs.BookState.{Mark}

-- the list is a non-empty prefix of some mark's events
pub record IsPrefixOfSomeMark (marks : List Mark) (es : List Event) : Type 0 where
  pub some : 0 < length es
  pub mark : Mark
  pub among : Contains marks mark
  pub begins : Begins es mark.events

-- no element occurs twice
abbrev pub AreDistinct : {X : Type 0} → List X → Type 0
AreDistinct [] = Unit {0}
AreDistinct (x ∷ xs) = (Contains xs x → ⊥) × AreDistinct xs

-- `count` is the number of different non-empty prefixes of the events of marks; `lists` has each of
-- them once
pub record CountsPrefixes (marks : List Mark) (count : ℕ) : Type 0 where
  pub lists : List (List Event)
  pub distinct : AreDistinct lists
  pub all : (es : List Event) → Contains lists es ↔ IsPrefixOfSomeMark marks es
  pub counted : count ≡ length lists

-- setting a mark at these events needs no new entry: there are none, or they are a prefix of some
-- mark's events
abbrev pub NeedsNoEntry : List Mark → List Event → Type 0
NeedsNoEntry marks es = 0 < length es → IsPrefixOfSomeMark marks es
