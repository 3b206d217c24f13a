-- The room that redoing needs, which undoing gave back, and when an event or a switch may be
-- refused memory.
use Rattle.std.specs.Prelude.{◌≡◌, ℕ, ◌+◌, ◌≤◌, ◌<◌, ◌⊎◌, IsSome, List, [], ◌∷◌, ◌++◌, length, drop, Result, Ok}
use Rattle.rd_step.specs.Prelude.{Refusal, World, Stepped, step, MOST_STEPS}
use Rattle.rd_step.specs.declared.entries.Event.{Event}
use Rattle.rd_step.specs.declared.entries.Entry.{Entry}
use Rattle.rd_step.specs.Room.{makes_segment, room_returned, FindsNoRoom}
use Rattle.rd_depend.specs.declared.index.DependIndex.{DependIndex}
use Rattle.rd_depend.specs.Index.{HasRoomInstead}
use Rattle.rd_journal.specs.Journal.{Journal}
use Rattle.rd_cell.specs.declared.refusal.Refusal.TheVariants as refusal

-- the number of segments for which undoing these entries gives room back to maker m
abbrev pub room_returned_by : List Entry → ℕ → ℕ
room_returned_by [] m = 0
room_returned_by (x ∷ xs) m = room_returned x.place x.old_content m + room_returned_by xs m

-- each maker has the room that undoing these entries gave back, so redoing them takes no memory
pub record HasRoomToRedo (undone : List Entry) (room : ℕ → ℕ) : Type 0 where
  pub at : (m : ℕ) → room_returned_by undone m ≤ room m

-- each actor of the world has room for its makings among the given entries: at least as much as
-- undoing these would give back
pub record ActorsHaveRoom (w : World) (given : List Entry) (room : ℕ → ℕ) : Type 0 where
  pub at : (m : ℕ) → IsSome (w.actor m) → room_returned_by given m ≤ room m

-- the index has no room for the given entries, even once the entries that go are removed
abbrev pub LacksIndexRoom : DependIndex → List Entry → List Entry → Type 0
LacksIndexRoom index gone given = HasRoomInstead index gone given → ⊥

-- the step succeeds, and the index has no room for its entry, even once those ahead are removed
pub record FindsNoIndexRoom (stepped : Result Stepped Refusal) (ahead : List Entry) (index : DependIndex) : Type 0 where
  pub after : Stepped
  pub goes : stepped ≡ Ok after
  pub lacks : LacksIndexRoom index ahead (after.entry ∷ [])

-- the event may be refused memory: fewer than `MOST_STEPS` steps are live, and one of three things
-- holds. No step is undone and the live entries fill the room for entries (`capacity`); or the step
-- makes a segment that nothing else refuses, and its maker has no room (`room`); or the step
-- succeeds, and the index has no room for its entry, even once the entries of all steps ahead
-- (`ahead`) are removed
pub record AsksForMemory (j : Journal) (ahead : List Entry) (capacity : ℕ) (room : ℕ → ℕ) (index : DependIndex) (e : Event) : Type 0 where
  pub not_full : length j.live < MOST_STEPS
  pub asked : ((j.undone ≡ []) × (capacity ≡ length j.live)) ⊎ FindsNoRoom (step j.world e) (makes_segment j.world e) (room e.actor)
      ⊎ FindsNoIndexRoom (step j.world e) ahead index

-- a refusal (`cause`) other than `TooLong` and `NoMemory` comes only where there is room for one
-- more entry: `capacity` is the number of entries that fit, `live` the number of live ones
abbrev pub ComesAfterRoom : ℕ → ℕ → Refusal → Type 0
ComesAfterRoom live capacity cause = (cause ≡ refusal.TooLong) ⊎ (cause ≡ refusal.NoMemory) ⊎ (live < capacity)

-- the room of each maker once the dropped entries are undone
abbrev pub room_after_undoing : List Entry → (ℕ → ℕ) → ℕ → ℕ
room_after_undoing dropped room m = room m + room_returned_by dropped m

-- some maker has too little room for its makings among the given entries
abbrev pub LacksRoomForMakings : List Entry → (ℕ → ℕ) → Type 0
LacksRoomForMakings given room = (m : ℕ) × (room m < room_returned_by given m)

-- room is missing for a switch: for the given entries after the first n live ones; or, once the
-- other live steps are undone, for some maker's makings among the given entries; or, once the other
-- live entries and those of all steps ahead are removed from the index, for the given ones in it
abbrev pub LacksRoomToSwitch : ℕ → Journal → List Entry → List Entry → ℕ → (ℕ → ℕ) → DependIndex → Type 0
LacksRoomToSwitch n j ahead given capacity room index =
    (capacity < n + length given) ⊎ LacksRoomForMakings given (room_after_undoing (drop n j.live) room) ⊎ LacksIndexRoom index (drop n j.live ++ ahead) given
