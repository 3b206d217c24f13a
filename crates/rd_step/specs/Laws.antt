-- What the laws of the machine state.
use Rattle.std.specs.Prelude.{◌≡◌, ℕ, true, false, List, Some, Ok, Err}
use Rattle.rd_ring.specs.Prelude.{Place, Content, Operation, Refusal, some_covers, is_nothing, written, Contents, operand, effect}
use Rattle.rd_actor.specs.declared.actors.Actor.{Actor}
use Rattle.rd_step.specs.World.{World}
use Rattle.rd_step.specs.declared.entries.Event.{Event}
use Rattle.rd_step.specs.declared.entries.Entry.{Entry}
use Rattle.rd_step.specs.Step.{Stepped, step}
use Rattle.rd_step.specs.Undo.{unstep}
use Rattle.rd_step.specs.Run.{Ran, run}
use Rattle.rd_step.specs.Dependence.{IsFree}
use Rattle.rd_step.specs.WellFormed.{IsWellFormed}
use Rattle.rd_cell.specs.declared.refusal.Refusal.TheVariants as refusal

-- the steps of e and f commute. In the given order, e's step from w leaves v, and f's then leaves
-- u; in the other, f goes first, each step leaves the same entry, and the last world is the same
pub record CommutingSquare (w : World) (e f : Event) (v u : Stepped) : Type 0 where
  pub first : Stepped
  pub goes_first : step w f ≡ Ok first
  pub same_entry : first.entry ≡ u.entry
  pub second : Stepped
  pub goes_second : step first.world e ≡ Ok second
  pub entry_unchanged : second.entry ≡ v.entry
  pub same_world : second.world ≡ u.world

-- e's step, from w to s, can be taken out of its run, which goes on with the events es to r.
-- Without it, these events leave the same entries and lead to r's world with the old words of e's
-- entry put back, which is well-formed. From there e may go last, with the same entry, and leads to
-- r's world
pub record IsRemovable (w : World) (e : Event) (s : Stepped) (es : List Event) (r : Ran) : Type 0 where
  pub rest : run w es ≡ Ok (record { world = unstep r.world s.entry; entries = r.entries })
  pub again : step (unstep r.world s.entry) e ≡ Ok (record { world = r.world; entry = s.entry })
  pub well_formed : IsWellFormed (unstep r.world s.entry)

-- x is the entry of a step in a run that reached the world `now`. The step of `event` in the
-- well-formed world `start` left x, and the `later` events, whose entries don't depend on x, led on
-- to `now`
pub record WasStepped (now : World) (x : Entry) : Type 0 where
  pub start : World
  pub well_formed : IsWellFormed start
  pub event : Event
  pub stepped : Stepped
  pub goes : step start event ≡ Ok stepped
  pub its_entry : stepped.entry ≡ x
  pub later : List Event
  pub ran : Ran
  pub went_on : run stepped.world later ≡ Ok ran
  pub here : ran.world ≡ now
  pub free : IsFree x ran.entries

-- the step of x was taken out: without it, the later events lead from its start to the world
-- `left`, with the same entries. From there its event leads back to `now`, with the entry x
pub record IsTakenOut (now left : World) (x : Entry) (was : WasStepped now x) : Type 0 where
  pub rest : run was.start was.later ≡ Ok (record { world = left; entries = was.ran.entries })
  pub again : step left was.event ≡ Ok (record { world = now; entry = x })

-- a step of the model in a well-formed world may meet this refusal: one of these eight, and no
-- other. `NoSuchPlace`, for a missing place or a content of another kind, is not among them
abbrev pub IsStepRefusal : Refusal → Type 0
IsStepRefusal refusal.NoActor = Unit {0}
IsStepRefusal refusal.NotIdle = Unit {0}
IsStepRefusal refusal.Idle = Unit {0}
IsStepRefusal refusal.NeedsChoice = Unit {0}
IsStepRefusal refusal.NoChoice = Unit {0}
IsStepRefusal refusal.CounterEnd = Unit {0}
IsStepRefusal refusal.ArrayEnd = Unit {0}
IsStepRefusal refusal.SegmentsEnd = Unit {0}
IsStepRefusal _ = ⊥

-- the place is there, and the operation suits its content: no `NoSuchPlace` refuses it
pub record SuitsContent (at : Contents) (p : Place) (op : Operation) : Type 0 where
  pub content : Content
  pub found : operand at p ≡ Some content
  pub suits : effect op content ≡ Err refusal.NoSuchPlace → ⊥

-- the event's actor is at different control points in the two worlds; this also holds if one of
-- them has no such actor
abbrev pub MovesOn : Event → World → World → Type 0
MovesOn e old new = (a b : Actor) → old.actor e.actor ≡ Some a → new.actor e.actor ≡ Some b → a.pc ≡ b.pc → ⊥

-- only the places that the entry's step wrote changed, all of them covered by the step's place, and
-- the record of the event's actor; no place changed if the step only read. The rings' size stayed
pub record ChangesOnly (e : Event) (x : Entry) (old new : World) : Type 0 where
  pub ring : new.ring ≡ old.ring
  pub outside : (q : Place) → some_covers (written x.place x.wrote) q ≡ false → new.at q ≡ old.at q
  pub inside : (q : Place) → some_covers (written x.place x.wrote) q ≡ true → some_covers x.place q ≡ true
  pub reading : is_nothing x.wrote ≡ true → new.at ≡ old.at
  pub others : (n : ℕ) → (n ≡ e.actor → ⊥) → new.actor n ≡ old.actor n

-- the entry's old words are the record of its actor and, if it has a place, the content of that
-- place (`operand`) in the world `before`
pub record KeepsOldWords (before : World) (x : Entry) : Type 0 where
  pub actor : before.actor x.event.actor ≡ Some x.old_actor
  pub content : (p : Place) → x.place ≡ Some p → operand before.at p ≡ x.old_content
