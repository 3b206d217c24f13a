-- The undoing of a step: what an entry lets put back (Danos and Krivine 2004). No definition that the
-- headline rests on uses these.
use Rattle.std.specs.Prelude.{◌≡◌, ℕ, ◌+◌, ◌≤◌, true, false, Option, Some, None, is_some, IsTrue}
use Rattle.rd_ring.specs.Prelude.{SegName, Place, Content, Contents, operand, restore, is_there, can_hold}
use Rattle.rd_actor.specs.declared.actors.Actor.{Actor}
use Rattle.rd_step.specs.World.{World}
use Rattle.rd_step.specs.declared.entries.Entry.{Entry}
use Rattle.rd_step.specs.Step.{with_actor}
use Rattle.rd_cell.specs.declared.places.Place.TheVariants as place

-- the segment is there, an actor made it, and that actor's next segment is not there
pub record IsLast (at : Contents) (s : SegName) : Type 0 where
  pub here : is_there at s ≡ true
  pub made : 1 ≤ s.maker
  pub last : is_there at (record { maker = s.maker; n = s.n + 1 }) ≡ false

-- this old content may be put back: without a place, none; at a place that is there, a content that
-- it can hold; at the whole of an actor's last segment, none, which removes the segment. Nothing
-- else may
abbrev pub CanPutBack : Contents → Option Place → Option Content → Type 0
CanPutBack at None None = Unit {0}
CanPutBack at (Some p) (Some c) = IsTrue (is_some (operand at p)) × IsTrue (can_hold p c)
CanPutBack at (Some (place.Whole s)) None = IsLast at s
CanPutBack at _ _ = ⊥

-- the world with the record a given back to actor n, and the old content `was` put back at the
-- place o. Without a content, the places that o covers are removed; without a place, no place
-- changes
abbrev pub revert : World → ℕ → Actor → Option Place → Option Content → World
revert w n a o was = record { ring = w.ring; at = restore o was w.at; actor = with_actor n a w.actor }

-- the world with an entry's old words put back: the old record of its actor and the old content of
-- its place, if it has one. A segment that its step made is removed
abbrev pub unstep : World → Entry → World
unstep w x = revert w x.event.actor x.old_actor x.place x.old_content
