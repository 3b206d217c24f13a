-- A step on which no later one depends may be taken out of a run, and go last.
use Rattle.rd_step.proofs.Prelude.{◌≡◌, ℕ, true, ◌==◌, refl, sym, ◌∙◌, ap, subst, List, [], ◌∷◌, is_some, Ok, arith, or_parts, Place, is_there, interfere, World, Event, Entry, Stepped, step, unstep, CanPutBack, Ran, run, IsFree, CommutingSquare, IsWellFormed, IsRemovable, WasStepped, IsTakenOut, subst₂}
use Rattle.rd_step.proofs.Steps.{step_stages, with_actor-same}
use Rattle.rd_step.proofs.Commute.{commutes}
use Rattle.rd_step.proofs.Keeps.{step_keeps_well_formed}
use Rattle.rd_step.proofs.Inverse.{undoes}
use Rattle.rd_step.proofs.RunParts.{each_run, free_parts}
use Rattle.rd_step.proofs.PutBack.{stays_at, others_stay, CanPutBack-entry}

-- the last step of a run may be taken out
last_removed : (w : World) (e : Event) (s : Stepped) → IsWellFormed w → step w e ≡ Ok s
    → IsRemovable w e s [] (record { world = s.world; entries = [] })
last_removed w e s formed h = grind (arith, undoes)

-- a step may be taken out of a run if it may swap with the next one, and may then be taken out of
-- the rest
removed_before : (w : World) (e f : Event) (s u : Stepped) (fs : List Event) (rest : Ran) (sw : CommutingSquare w e f s u)
    → IsRemovable sw.first.world e sw.second fs rest
    → IsRemovable w e s (f ∷ fs) (record { world = rest.world; entries = u.entry ∷ rest.entries })
removed_before w e f s u fs rest sw r = grind arith

-- a step on which no later one depends may be taken out of a run, and go last
pub removes : (w : World) (e : Event) (s : Stepped) (es : List Event) (r : Ran) → IsWellFormed w → step w e ≡ Ok s
    → run s.world es ≡ Ok r → IsFree s.entry r.entries → IsRemovable w e s es r
removes w e s [] r formed h k free =
    let p : record { world = s.world; entries = [] } ≡ r = cc in
    subst (λ (x : Ran). IsRemovable w e s [] x) p (last_removed w e s formed h)
removes w e s (f ∷ fs) r formed h k free =
    each_run s.world f fs (λ x. IsFree s.entry x.entries → IsRemovable w e s (f ∷ fs) x)
    (λ one rest goes goes_on alone.
    let parts = free_parts s.entry one.entry rest.entries alone in
    let sw = commutes w e f s one h goes parts.0 in
    removed_before w e f s one fs rest sw
    (removes sw.first.world e sw.second fs rest (step_keeps_well_formed w f sw.first formed sw.goes_first) sw.goes_second
    (ap (λ (v : World). run v fs) sw.same_world ∙ goes_on) (subst (λ (x : Entry). IsFree x rest.entries) (sym sw.entry_unchanged) parts.1)))
    r k free

-- Runs keep the size of the rings, well-formedness, and the places and actors that are there

-- an invariant of every step is one of every run
run_invariant : (P : World → Type 0) → ((v : World) (e : Event) (s : Stepped) → P v → step v e ≡ Ok s → P s.world) → (w : World) (es : List Event) (r : Ran)
    → P w → run w es ≡ Ok r → P r.world
run_invariant P stays w [] r p h = let same : w ≡ r.world = cc in subst P same p
run_invariant P stays w (e ∷ es) r p h =
    each_run w e es (λ x. P x.world) (λ s rest goes goes_on. run_invariant P stays s.world es rest (stays w e s p goes) goes_on) r h

-- a run keeps the size of the rings
pub run_ring : (w : World) (es : List Event) (r : Ran) → run w es ≡ Ok r → r.world.ring ≡ w.ring
run_ring w es r h = run_invariant (λ v. v.ring ≡ w.ring) (λ v e s same goes. ap (λ (x : Stepped). x.world.ring) (sym (step_stages v e s goes).ends) ∙ same) w es r refl h

-- a run keeps a world well-formed
pub run_keeps_well_formed : (w : World) (es : List Event) (r : Ran) → IsWellFormed w → run w es ≡ Ok r → IsWellFormed r.world
run_keeps_well_formed w es r formed h = run_invariant IsWellFormed step_keeps_well_formed w es r formed h

-- a step removes no actor
stays_actor : (w : World) (e : Event) (s : Stepped) (n : ℕ) → step w e ≡ Ok s → is_some (w.actor n) ≡ true
    → is_some (s.world.actor n) ≡ true
stays_actor w e s n h there = grind arith

-- a run removes no actor
pub run_stays_actor : (w : World) (es : List Event) (r : Ran) (n : ℕ) → run w es ≡ Ok r → is_some (w.actor n) ≡ true
    → is_some (r.world.actor n) ≡ true
run_stays_actor w es r n h there = run_invariant (λ v. is_some (v.actor n) ≡ true) (λ v e s some goes. stays_actor v e s n goes some) w es r there h

-- a run removes no place
run_stays_at : (w : World) (es : List Event) (r : Ran) (q : Place) → IsWellFormed w → run w es ≡ Ok r → is_some (w.at q) ≡ true
    → is_some (r.world.at q) ≡ true
run_stays_at w es r q formed h there =
    (run_invariant (λ v. IsWellFormed v × (is_some (v.at q) ≡ true)) (λ v e s p goes. (step_keeps_well_formed v e s p.0 goes, stays_at v e s q p.0 goes p.1)) w es r (formed, there) h).1

-- steps that do not depend on x add and remove no segment of x's actor
run_others : (w : World) (es : List Event) (r : Ran) (x : Entry) (k : ℕ) → run w es ≡ Ok r → IsFree x r.entries
    → is_there r.world.at (record { maker = x.event.actor; n = k }) ≡ is_there w.at (record { maker = x.event.actor; n = k })
run_others w [] r x k h free = grind arith
run_others w (e ∷ es) r x k h free =
    each_run w e es (λ y. IsFree x y.entries → is_there y.world.at (record { maker = x.event.actor; n = k }) ≡ is_there w.at (record { maker = x.event.actor; n = k }))
    (λ one rest goes goes_on alone.
    let parts = free_parts x one.entry rest.entries alone in
    let other = or_parts (x.event.actor == one.entry.event.actor) (interfere x.place x.wrote one.entry.place one.entry.wrote) parts.0 in
    run_others one.world es rest x k goes_on parts.1 ∙ others_stay w e one x.event.actor k goes other.0)
    r h free

-- Undoing

-- the actor of a step is there after it
entry_actor : (w : World) (e : Event) (s : Stepped) → step w e ≡ Ok s → is_some (s.world.actor s.entry.event.actor) ≡ true
entry_actor w e s h = grind (arith, step_stages, is_some, with_actor-same)

-- the requirements of `revert` hold for undoing the step of x: its actor is there, its old content
-- may be put back, and the world after that is well-formed
pub record CanUndo (now : World) (x : Entry) : Type 0 where
  pub actor_there : is_some (now.actor x.event.actor) ≡ true
  pub place_there : CanPutBack now.at x.place x.old_content
  pub formed : IsWellFormed (unstep now x)

-- the first step of a run, on which no later one depends, can be undone at the run's end
can_undo_ran : (w : World) (e : Event) (s : Stepped) (es : List Event) (r : Ran) → IsWellFormed w → step w e ≡ Ok s
    → run s.world es ≡ Ok r → IsFree s.entry r.entries → CanUndo r.world s.entry
can_undo_ran w e s es r formed h k free =
    let formed' = step_keeps_well_formed w e s formed h in
    record {
      actor_there = run_stays_actor s.world es r s.entry.event.actor k (entry_actor w e s h);
      place_there =
          CanPutBack-entry w e s r.world.ring r.world.at formed h (λ q there. run_stays_at s.world es r q formed' k there)
          (λ n. run_others s.world es r s.entry n k free) (run_keeps_well_formed s.world es r formed' k).contents;
      formed = (removes w e s es r formed h k free).well_formed;
    }

-- a step that was made, and on which no later one depends, can be undone
pub can_undo : (now : World) (x : Entry) → WasStepped now x → CanUndo now x
can_undo now x was =
    let free : IsFree was.stepped.entry was.ran.entries = subst (λ (y : Entry). IsFree y was.ran.entries) (sym was.its_entry) was.free in
    subst₂ CanUndo was.here was.its_entry
    (can_undo_ran was.start was.event was.stepped was.later was.ran was.well_formed was.goes was.went_on free)

-- undoing such a step takes it out of its run
pub taken_out : (now : World) (x : Entry) (was : WasStepped now x) → IsTakenOut now (unstep now x) x was
taken_out now x was =
    let free : IsFree was.stepped.entry was.ran.entries = subst (λ (y : Entry). IsFree y was.ran.entries) (sym was.its_entry) was.free in
    let r = removes was.start was.event was.stepped was.later was.ran was.well_formed was.goes was.went_on free in
    grind arith
