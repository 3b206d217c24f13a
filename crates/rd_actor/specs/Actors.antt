-- The records with which an actor may begin.
use Rattle.std.specs.Prelude.{ℕ, false, Some, None}
use Rattle.rd_cell.specs.Places.{root}
use Rattle.rd_actor.specs.declared.actors.Actor.{Actor}
use Rattle.rd_actor.specs.declared.actors.Pc.TheVariants.{Idle, E4}
use Rattle.rd_actor.specs.declared.actors.Pc.{Pc}
use Rattle.rd_actor.specs.declared.actors.Op.{Op}
use Rattle.rd_actor.specs.declared.actors.Op.TheVariants as op

-- the record of an actor in no call: its names are the root, its numbers 0 and its bits false, and
-- it has no value
abbrev pub idle : Actor
idle =
    record { pc = Idle; op = None; crq = root; new = root; next = root; t = 0; h = 0; closed = false; val = None; safe = false; idx = 0; pass = 0 }

-- the record of an actor in an enqueue of this value, whose next step draws a position on the root;
-- its other words are idle ones
abbrev pub poised : ℕ → Actor
poised value = record idle { pc = E4; op = Some (op.Enq value) }

-- the record of an actor that begins this call at this control point; its other words are idle ones
abbrev pub calling : Pc → Op → Actor
calling pc call = record idle { pc = pc; op = Some call }
