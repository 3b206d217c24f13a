-- The room that a step uses is the room that undoing it gives back.
use Rattle.rd_step.proofs.Prelude.{◌≡◌, ℕ, true, arith, Ok, is_nothing, room_used, World, Event, Stepped, step, makes_segment, room_returned}

-- the room that a step uses is what undoing it gives back
pub room_used_returned : (w : World) (e : Event) (s : Stepped) (m : ℕ) → step w e ≡ Ok s
    → room_used (makes_segment w e) e.actor m ≡ room_returned s.entry.place s.entry.old_content m
room_used_returned w e s m h = grind arith

-- undoing a step that only read gives no room back
pub read_returns_none : (w : World) (e : Event) (s : Stepped) (m : ℕ) → step w e ≡ Ok s → is_nothing s.entry.wrote ≡ true
    → room_returned s.entry.place s.entry.old_content m ≡ 0
read_returns_none w e s m h = grind arith
