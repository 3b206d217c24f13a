-- The plain step: one event in a world (Morrison and Afek 2013, in our profile of docs/MODEL.md).
use Rattle.std.specs.Prelude.{ℕ, ◌==◌, if◌then◌else◌, Option, Some, ok_or, Result, Ok}
use Rattle.rd_ring.specs.Prelude.{Refusal, Performed, contents_after, perform, and_then}
use Rattle.rd_actor.specs.declared.actors.Actor.{Actor}
use Rattle.rd_actor.specs.declared.actors.OpReply.{OpReply}
use Rattle.rd_actor.specs.Table.{need, after}
use Rattle.rd_step.specs.World.{World}
use Rattle.rd_step.specs.declared.entries.Event.{Event}
use Rattle.rd_step.specs.declared.entries.Entry.{Entry}
use Rattle.rd_cell.specs.declared.refusal.Refusal.TheVariants as refusal

-- what a step leaves: the world after it, and the entry that the journal keeps of it
pub record Stepped : Type 0 where
  pub world : World
  pub entry : Entry

-- the actors with this record for the actor of this number; all others keep theirs
abbrev pub with_actor : ℕ → Actor → (ℕ → Option Actor) → ℕ → Option Actor
with_actor n a actors m = if m == n then Some a else actors m

-- the outcome of a step: the event's actor had the record a, its access did `did`, and it goes on
-- with the record `next.0` and the reply `next.1`, if there is one
abbrev pub step_outcome : World → Event → Actor → Performed → Actor × Option OpReply → Stepped
step_outcome w e a did next = record {
  world = record { ring = w.ring; at = contents_after did w.at; actor = with_actor e.actor next.0 w.actor };
  entry = record { event = e; place = did.place; wrote = did.wrote; answer = did.answer; reply = next.1; old_actor = a; old_content = did.old };
}

-- the step of an event in a world: the event's actor asks for its one access, which is done at its
-- one place, and goes on with the answer. All other places and actors stay. The step is refused
-- with `NoActor` if there is no such actor, or else as `need` or `perform` refuses it
abbrev pub step : World → Event → Result Stepped Refusal
step w e =
    and_then (ok_or (w.actor e.actor) refusal.NoActor) (λ a.
    and_then (need w.ring a e.act) (λ access.
    and_then (perform w.ring e.actor w.at access) (λ did.
    Ok (step_outcome w e a did (after w.ring a e.act did.answer)))))
