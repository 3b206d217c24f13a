use Rattle.std.proofs.Common.{◌≡◌, ℕ, ◌==◌, ◌&&◌, refl, sym, ◌∙◌, ap, subst₂, [], arith, Ok, eq-eqb}
use Rattle.std.proofs.lemmas.Bool.{cond-true, and_from}
use Rattle.rd_segments.specs.Room.{room_used}
use Rattle.rd_step.specs.Prelude.{World, Stepped, step, unstep, model, IsWellFormed}
use Rattle.rd_step.specs.declared.entries.Entry.{Entry}
use Rattle.rd_step.specs.declared.entries.Event.{Event}
use Rattle.rd_step.specs.Laws.{WasStepped}
use Rattle.rd_step.specs.Room.{makes_segment}
use Rattle.rd_step.proofs.Inverse.{undoes}
use Rattle.rd_step.proofs.Removal.{can_undo}
use Rattle.rd_step.proofs.Room.{room_used_returned}
use Rattle.rd_step.proofs.Steps.{step_stages}
use Rattle.rd_step_tests.proofs.world.step_and_revert.Goals as goal

pub revert-requires : goal.revert-requires
revert-requires c =
    let was : WasStepped (model c.step.new.self) c.in_ok-entry.entry = record {
      start = model c.args.world.now;
      well_formed = c.args.world.now.well_formed;
      event = c.args.event;
      stepped = record { world = model c.step.new.self; entry = c.in_ok-entry.entry };
      goes = c.in_ok-entry.ensures.ok;
      its_entry = refl;
      later = [];
      ran = record { world = model c.step.new.self; entries = [] };
      went_on = refl;
      here = refl;
      free = refl;
    } in
    let can = can_undo (model c.step.new.self) c.in_ok-entry.entry was in
    (omega arith, (can.actor_there, (can.place_there, can.formed)))

-- a step goes again where it was undone
goes_again : (w v u : World) (e : Event) (x : Entry) → IsWellFormed w → step w e ≡ Ok (record { world = v; entry = x })
    → u ≡ unstep v x → step u x.event ≡ Ok (record { world = v; entry = x })
goes_again w v u e x formed h back =
    let s : Stepped = record { world = v; entry = x } in
    let event : e ≡ x.event = ap (λ (y : Stepped). y.entry.event) (step_stages w e s h).ends in
    subst₂ (λ (start : World) (f : Event). step start f ≡ Ok s) (sym (back ∙ undoes w e s formed h)) event h

pub returns-clause-goes : goal.returns-clause-goes
returns-clause-goes c = (
  model c.step.new.self,
  goes_again (model c.args.world.now) (model c.step.new.self) (model c.revert.new.self) c.args.event c.in_ok-entry.entry c.args.world.now.well_formed
      c.in_ok-entry.ensures.ok c.revert.ensures.done,
)

pub returns-clause-room : goal.returns-clause-room
returns-clause-room c = λ makes.
    let x = c.in_ok-entry.entry in
    let u : World = model c.revert.new.self in
    let n : ℕ = x.event.actor in
    let again = goes_again (model c.args.world.now) (model c.step.new.self) u c.args.event x c.args.world.now.well_formed c.in_ok-entry.ensures.ok
    c.revert.ensures.done in
    let one : room_used (makes_segment u x.event) n n ≡ 1 =
    cond-true (makes_segment u x.event && (n == n)) 1 0 (and_from (makes_segment u x.event) (n == n) makes (eq-eqb n n refl)) in
    let back = room_used_returned u x.event (record { world = model c.step.new.self; entry = x }) n again in
    omega (arith, one, back, c.revert.ensures.room.returns n)
