-- The keys under which a step touched, what it wrote under them, and its order and how far it
-- reached under each.
use Rattle.rd_equivalence.proofs.Prelude.{◌≡◌, ℕ, ◌<◌, Bool, true, false, if◌then◌else◌, Option, Some, arith, SegName, Place, Wrote, written, name_eq, Entry, Key, At, In, Reached, is_under, value_key, is_value_written, last_blocking, raised, IsAfter, IsInOrder, with_step}
use Rattle.rd_cell.specs.declared.places.Place.TheVariants as place

-- whether there is a place, and it is the whole of this segment
abbrev pub is_whole_of_segment : SegName → Option Place → Bool
is_whole_of_segment s (Some (place.Whole t)) = name_eq s t
is_whole_of_segment s _ = false

-- whether a step counts as a write under the key: it wrote there, for the key of a place, or made
-- the segment, for the key of a segment
abbrev pub wrote_under : Key → Option Place → Wrote → Bool
wrote_under (At p) place wrote = is_under (At p) (written place wrote)
wrote_under (In s) place wrote = is_whole_of_segment s place

-- a step touched each key under which it wrote
pub wrote_touched : (k : Key) (q : Option Place) (w : Wrote) → wrote_under k q w ≡ true → is_under k q ≡ true
wrote_touched k q w h = grind arith

-- what it wrote under each of them

wrote_value : (o : Option Place) (w : Wrote) (k : Key) → value_key o ≡ Some k → wrote_under k o w ≡ is_value_written w
wrote_value o w k h = grind arith

-- how far the steps reached, and their order, key by key

pub passed_at : (s : Key → Reached) (x : Entry) (i : ℕ) (k : Key)
    → with_step s x i k ≡ (if is_under k x.place then raised (s k) (wrote_under k x.place x.wrote) i else s k)
unfolding with_step
passed_at s x i k = grind arith

pub in_order_at : (s : Key → Reached) (x : Entry) (i : ℕ) → IsInOrder s x i → (k : Key) → is_under k x.place ≡ true → last_blocking (s k) (wrote_under k x.place x.wrote) < i
in_order_at s x i order k touched = grind (arith, wrote_value)

after_at : (s : Key → Reached) (o : Option Key) (w : Bool) (i : ℕ) → ((k : Key) → o ≡ Some k → last_blocking (s k) w < i) → IsAfter s o w i
after_at s o w i h = grind arith

pub in_order_from : (s : Key → Reached) (x : Entry) (i : ℕ) → ((k : Key) → is_under k x.place ≡ true → last_blocking (s k) (wrote_under k x.place x.wrote) < i) → IsInOrder s x i
in_order_from s x i h = grind (arith, after_at, wrote_value)
