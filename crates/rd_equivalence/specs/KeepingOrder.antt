-- Whether two runs have their dependent steps in the same order. The steps of the first run are
-- added one after another. A state `s` says for each key how far the steps added before reached in
-- the second run.
use Rattle.std.specs.Prelude.{◌≡◌, ◌<◌, ℕ, max, Bool, true, false, not, ◌==◌, if◌then◌else◌, List, [], ◌∷◌, Option, Some, None}
use Rattle.rd_cell.specs.declared.places.Place.{Place}
use Rattle.rd_cell.specs.declared.places.Place.TheVariants as place
use Rattle.rd_cell.specs.Places.{is_nothing}
use Rattle.rd_step.specs.declared.entries.Entry.{Entry}
use Rattle.rd_depend.specs.declared.index.keys.Key.{Key}
use Rattle.rd_equivalence.specs.declared.keeping_order.Reached.{Reached}
use Rattle.rd_depend.specs.Keys.{some_key_eq, place_key, value_key, segment_key, is_value_written}

-- whether there is a place, and it is the whole of a segment, as for a making
abbrev pub is_whole_segment : Option Place → Bool
is_whole_segment (Some (place.Whole t)) = true
is_whole_segment _ = false

-- the number in the second run after which a step under the key has to come. A step that writes
-- comes after those that touched the key, and a step that only reads after those that wrote it
abbrev pub last_blocking : Reached → Bool → ℕ
last_blocking r wrote = if wrote then r.touched else r.wrote

-- how far the steps under a key reached after one more, which has the number i in the second run
-- and, if `wrote`, wrote the key
abbrev pub raised : Reached → Bool → ℕ → Reached
raised r wrote i = record { touched = max r.touched i; wrote = if wrote then max r.wrote i else r.wrote }

-- how far the steps reached under each key before the first of them: nowhere
abbrev pub nothing_reached : Key → Reached
nothing_reached k = record { touched = 0; wrote = 0 }

-- a step that has the number i in the second run and, if `wrote`, wrote this key comes there after
-- all steps added before under the key on which it depends; this always holds without a key
abbrev pub IsAfter : (Key → Reached) → Option Key → Bool → ℕ → Type 0
IsAfter s None wrote i = Unit {0}
IsAfter s (Some k) wrote i = last_blocking (s k) wrote < i

-- the state after one more step under this key, which has the number i in the second run and, if
-- `wrote`, wrote the key; as before without a key
abbrev pub with_step_under : Option Key → Bool → ℕ → (Key → Reached) → Key → Reached
with_step_under key wrote i s k = if some_key_eq k key then raised (s k) wrote i else s k

-- a step with number i in the second run comes there after all steps added before that share one of
-- its three keys and on which it depends. A making counts as a write of its segment, and any other
-- step at a place of the segment as a read of it
pub record IsInOrder (s : Key → Reached) (x : Entry) (i : ℕ) : Type 0 where
  pub place : IsAfter s (place_key x.place) (not (is_nothing x.wrote)) i
  pub value : IsAfter s (value_key x.place) (is_value_written x.wrote) i
  pub segment : IsAfter s (segment_key x.place) (is_whole_segment x.place) i

-- the state after this step, which has the number i in the second run, is added
unfoldable pub with_step : (Key → Reached) → Entry → ℕ → Key → Reached
with_step s x i =
    with_step_under (segment_key x.place) (is_whole_segment x.place) i
    (with_step_under (value_key x.place) (is_value_written x.wrote) i (with_step_under (place_key x.place) (not (is_nothing x.wrote)) i s))

-- two steps have the same event and the same place, and wrote the same part of it
pub record AreAlike (x y : Entry) : Type 0 where
  pub event : x.event ≡ y.event
  pub place : x.place ≡ y.place
  pub wrote : x.wrote ≡ y.wrote

-- a step with its number in its run: `p.0` is the number, from 1, and `p.1` the entry
abbrev pub Numbered : Type 0
Numbered = ℕ × Entry

-- the steps that are left of each actor, where actor n has just `rest`
abbrev pub with_rest : (ℕ → List Numbered) → ℕ → List Numbered → ℕ → List Numbered
with_rest left n rest m = if m == n then rest else left m

-- p is the next step left of the actor of x, it is like x and in order, and `rest` is what is left
-- of this actor then
pub record IsNext (s : Key → Reached) (x : Entry) (left : ℕ → List Numbered) (p : Numbered) (rest : List Numbered) : Type 0 where
  pub first : left x.event.actor ≡ p ∷ rest
  pub alike : AreAlike x p.1
  pub order : IsInOrder s x p.0

-- these steps of the first run are just those left of the second. Added one after another from the
-- state `s` on, each is like the next one of its actor there and in order, and at the end none is
-- left
abbrev pub KeepsOrder : (Key → Reached) → List Entry → (ℕ → List Numbered) → Type 0
KeepsOrder s [] left = (n : ℕ) → left n ≡ []
KeepsOrder s (x ∷ xs) left =
    (p : Numbered) × (rest : List Numbered) × IsNext s x left p rest × KeepsOrder (with_step s x p.0) xs (with_rest left x.event.actor rest)
