-- Room: the number of segments of each maker that can be made before its list has to grow.
use Rattle.std.specs.Option.{option_map_or}
use Rattle.std.specs.Prelude.{◌≡◌, ◌≢◌, ℕ, ◌+◌, ◌-◌, ◌<◌, ◌≤◌, ◌==◌, ◌&&◌, Bool, true, IsTrue, List, Option, Some, None, Result, Err, OnOk, OnErr, is_ok, slice_get, if◌then◌else◌, length, vec_len, vec_capacity}
use Rattle.rd_ring.specs.Prelude.{Place, Content, Refusal}
use Rattle.rd_ring.specs.declared.segments.Segment.{Segment}
use Rattle.rd_segments.specs.Lists.{ListOf}
use Rattle.rd_cell.specs.declared.places.Place.TheVariants as place
use Rattle.rd_cell.specs.declared.refusal.Refusal.TheVariants as refusal

-- the number of further segments for which a list has room; 0 without a list
abbrev pub room_in_list : {R : ℕ} → Option (ListOf (Segment R)) → ℕ
room_in_list o = option_map_or (λ list. vec_capacity list - vec_len list) o 0

-- the number of further segments for which this maker's list has room; 0 if the maker has no list
abbrev pub room_of_maker : {R : ℕ} → List (ListOf (Segment R)) → ℕ → ℕ
room_of_maker makers m = room_in_list (slice_get makers m)

-- the room of maker m that a making by `maker` uses: 1 if the making succeeded and m is that maker,
-- else 0
abbrev pub room_used : Bool → ℕ → ℕ → ℕ
room_used made maker m = if made && (m == maker) then 1 else 0

-- the room of maker m that is given back when this old content, or none, is put back at a place: 1
-- if that removes a segment of m, else 0
abbrev pub room_returned : Option Place → Option Content → ℕ → ℕ
room_returned p (Some c) m = 0
room_returned (Some (place.Whole s)) None m = room_used true s.maker m
room_returned _ _ m = 0

-- the room of all makers: the number of makers that have a list, and in `at` the number of further
-- segments for which each maker's list has room
pub record MakersRoom : Type 0 where
  pub makers : ℕ
  pub at : ℕ → ℕ

-- the room of all makers in these lists
abbrev pub makers_room : {R : ℕ} → List (ListOf (Segment R)) → MakersRoom
makers_room makers = record { makers = length makers; at = room_of_maker makers }

-- no maker's room changed, and no maker got or lost a list
pub record KeepsMakersRoom (old new : MakersRoom) : Type 0 where
  pub makers : new.makers ≡ old.makers
  pub same : (m : ℕ) → new.at m ≡ old.at m

-- a call with this result used room: at most 1 of this maker's if `makes` holds and the call
-- succeeded, else none. Only this maker's room may change, and only if `makes` holds; it may also
-- grow. A call that was refused with `SegmentsEnd` changes no room. No maker got or lost a list
pub record UsesMakersRoom {T : Type 0} (result : Result T Refusal) (makes : Bool) (maker : ℕ) (old new : MakersRoom) : Type 0 where
  pub makers : new.makers ≡ old.makers
  pub used : (m : ℕ) → old.at m ≤ new.at m + room_used (is_ok result && makes) maker m
  pub others : (m : ℕ) → (IsTrue makes → m ≢ maker) → new.at m ≡ old.at m
  pub ended : result ≡ Err refusal.SegmentsEnd → (m : ℕ) → new.at m ≡ old.at m

-- each maker has its old room, and in addition the room `returned` to it; no maker got or lost a
-- list
pub record ReturnsMakersRoom (returned : ℕ → ℕ) (old new : MakersRoom) : Type 0 where
  pub makers : new.makers ≡ old.makers
  pub returns : (m : ℕ) → new.at m ≡ old.at m + returned m

-- if the call with this result succeeded, this maker has room for at least `more` segments; if it
-- was refused, the maker had room for fewer before. No maker has less room than before, the room of
-- other makers stays, and no maker got or lost a list
pub record AddsMakersRoom {T E : Type 0} (result : Result T E) (maker more : ℕ) (old new : MakersRoom) : Type 0 where
  pub makers : new.makers ≡ old.makers
  pub ok : OnOk result (more ≤ new.at maker)
  pub err : OnErr result (old.at maker < more)
  pub kept : (m : ℕ) → old.at m ≤ new.at m
  pub others : (m : ℕ) → m ≢ maker → new.at m ≡ old.at m
