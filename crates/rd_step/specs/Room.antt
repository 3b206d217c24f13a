-- Which steps make a segment, and so use their actor's room, and how steps are refused.
use Rattle.std.specs.Result.{result_unwrap_or}
use Rattle.std.specs.Prelude.{◌≡◌, ◌⊎◌, ℕ, ok_or, Bool, true, false, IsTrue, IsOk, Result, Err}
use Rattle.rd_ring.specs.Prelude.{Access, Make, Refusal, and_then, result_map}
use Rattle.rd_actor.specs.Table.{need}
use Rattle.rd_step.specs.declared.entries.Event.{Event}
use Rattle.rd_step.specs.World.{World}
pub use Rattle.rd_segments.specs.Room.{room_used, room_returned, ReturnsMakersRoom}
use Rattle.rd_cell.specs.declared.refusal.Refusal.TheVariants as refusal

-- whether the access makes a segment
abbrev pub is_make : Access → Bool
is_make (Make x) = true
is_make _ = false

-- the access for which the event's actor asks; `NoActor` if there is no such actor, or the refusal
-- of `need`
abbrev pub access_of : World → Event → Result Access Refusal
access_of w e = and_then (ok_or (w.actor e.actor) refusal.NoActor) (λ a. need w.ring a e.act)

-- whether the event's access makes a segment; false if the event is refused its access
abbrev pub makes_segment : World → Event → Bool
makes_segment w e = result_unwrap_or (result_map is_make (access_of w e)) false

-- a step that the model doesn't refuse (`does` is its result there) makes a segment, but its actor
-- has no room
abbrev pub FindsNoRoom : {X : Type 0} → Result X Refusal → Bool → ℕ → Type 0
FindsNoRoom does makes room = IsOk does × IsTrue makes × (room ≡ 0)

-- a step with the result `does` in the model may be refused for this cause: the model's own or, if
-- the model doesn't refuse it but it makes a segment for which its actor has no room, `NoMemory`
abbrev pub IsRefused : {X : Type 0} → Result X Refusal → Bool → ℕ → Refusal → Type 0
IsRefused does makes room cause = (does ≡ Err cause) ⊎ ((cause ≡ refusal.NoMemory) × FindsNoRoom does makes room)
