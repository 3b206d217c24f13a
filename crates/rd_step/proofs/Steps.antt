-- A step that was not refused, taken apart.
use Rattle.rd_step.proofs.Prelude.{◌≡◌, ℕ, ◌==◌, refl, arith, Option, Some, ok_or, Ok, Err, ne_eqb, eq-eqb, cond-true, cond-false, and_then_ok, ok_or_ok, Access, Refusal, Performed, perform, Actor, need, after, World, Event, Stepped, with_actor, step_outcome, step, None, Contents, SegName, Place, Operation, Content, Effect, operand, effect, performed_at, number_made, MOST_SEGMENTS, NoPlace, At, Make, segment_holding, nat_lt, true, Result, IfOk, IfOk-at_ok, cond_both, result_map, operate, subst, no_access}
use Rattle.rd_cell.specs.declared.places.Place.TheVariants as place
use Rattle.rd_cell.specs.declared.places.Wrote.TheVariants as wrote
use Rattle.rd_cell.specs.declared.operations.Answer.TheVariants as answer
use Rattle.rd_cell.specs.declared.refusal.Refusal.TheVariants as refusal

-- the parts of a step of e from w: the actor's record, its access and what that did
pub record StepStages (w : World) (e : Event) (s : Stepped) : Type 0 where
  pub a : Actor
  pub has : w.actor e.actor ≡ Some a
  pub access : Access
  pub needs : need w.ring a e.act ≡ Ok access
  pub did : Performed
  pub does : perform w.ring e.actor w.at access ≡ Ok did
  pub ends : step_outcome w e a did (after w.ring a e.act did.answer) ≡ s

-- a step that is not refused has these parts
pub step_stages : (w : World) (e : Event) (s : Stepped) → step w e ≡ Ok s → StepStages w e s
step_stages w e s m =
    and_then_ok (ok_or (w.actor e.actor) refusal.NoActor) _ s m (λ a has m1.
    and_then_ok (need w.ring a e.act) _ s m1 (λ access needs m2.
    and_then_ok (perform w.ring e.actor w.at access) _ s m2 (λ did does m3.
    record { a = a; has = ok_or_ok (w.actor e.actor) refusal.NoActor a has; access = access; needs = needs; did = did; does = does; ends = cc })))

-- conversely, an actor's record, its access and what that does make a step
pub step_of : (w : World) (e : Event) (a : Actor) (x : Access) (did : Performed) → w.actor e.actor ≡ Some a
    → need w.ring a e.act ≡ Ok x → perform w.ring e.actor w.at x ≡ Ok did → step w e ≡ Ok (step_outcome w e a did (after w.ring a e.act did.answer))
step_of w e a x did h k l = grind arith

-- if an actor's record refuses the act, the step is refused for the same cause
pub step-refused_by_need : (w : World) (e : Event) (a : Actor) (refusal : Refusal) → w.actor e.actor ≡ Some a
    → need w.ring a e.act ≡ Err refusal → step w e ≡ Err refusal
step-refused_by_need w e a refusal h k = grind arith

-- after one record is set, that actor has it
pub with_actor-same : (n : ℕ) (a : Actor) (actors : ℕ → Option Actor) → with_actor n a actors n ≡ Some a
with_actor-same n a actors = cond-true (n == n) (Some a) (actors n) (eq-eqb n n refl)

-- after one record is set, every other actor has its own
pub with_actor-other : (n : ℕ) (a : Actor) (actors : ℕ → Option Actor) (m : ℕ) → (m ≡ n → ⊥) → with_actor n a actors m ≡ actors m
with_actor-other n a actors m ne = cond-false (m == n) (Some a) (actors m) (ne_eqb m n ne)

-- What an access did, by its kind

-- what the making of this actor's next segment, which holds x, does
abbrev pub making : ℕ → ℕ → Contents → ℕ → Performed
making R n at x =
    let s : SegName = record { maker = n; n = number_made at n } in
    record { place = Some (place.Whole s); old = None; answer = answer.Made s; wrote = wrote.Place; given = segment_holding R x }

-- P holds of each access and what it did, if it holds without an access, of each effect of an
-- operation on its operand, and of each making below the limit
pub each_access : (R n : ℕ) (at : Contents) (P : Access → Performed → Type 0) → P NoPlace no_access
    → ((p : Place) (op : Operation) (c : Content) (f : Effect) → operand at p ≡ Some c → effect op c ≡ Ok f → P (At p op) (performed_at p c f))
    → ((x : ℕ) → nat_lt (number_made at n) MOST_SEGMENTS ≡ true → P (Make x) (making R n at x)) → (x : Access) → IfOk (perform R n at x) (P x)
each_access R n at P none operated made NoPlace = none
each_access R n at P none operated made (Make x) = grind (arith, cond_both)
each_access R n at P none operated made (At p op) = by_operand (operand at p) refl
  where
    by_effect : (c : Content) (r : Result Effect Refusal) → operand at p ≡ Some c → effect op c ≡ r → IfOk (result_map (performed_at p c) r) (P (At p op))
    by_effect c (Ok f) h k = operated p op c f h k
    by_effect c (Err e) h k = tt

    by_operand : (o : Option Content) → operand at p ≡ o → IfOk (operate p op o) (P (At p op))
    by_operand None h = tt
    by_operand (Some c) h = by_effect c (effect op c) h refl

-- if an actor asks for the access x, which does `did`, P holds of its step
abbrev HoldsOf : World → Event → Actor → (Stepped → Type 0) → Access → Performed → Type 0
HoldsOf w e a P x did = need w.ring a e.act ≡ Ok x → P (step_outcome w e a did (after w.ring a e.act did.answer))

-- P holds of each step, if it holds of the steps of each kind of access
pub each_step : (w : World) (e : Event) (P : Stepped → Type 0)
    → ((a : Actor) → w.actor e.actor ≡ Some a → need w.ring a e.act ≡ Ok NoPlace → P (step_outcome w e a no_access (after w.ring a e.act answer.Nothing)))
    → ((a : Actor) (p : Place) (op : Operation) (c : Content) (f : Effect) → w.actor e.actor ≡ Some a → need w.ring a e.act ≡ Ok (At p op)
    → operand w.at p ≡ Some c → effect op c ≡ Ok f → P (step_outcome w e a (performed_at p c f) (after w.ring a e.act f.answer)))
    → ((a : Actor) (x : ℕ) → w.actor e.actor ≡ Some a → need w.ring a e.act ≡ Ok (Make x) → nat_lt (number_made w.at e.actor) MOST_SEGMENTS ≡ true
    → let did = making w.ring e.actor w.at x in P (step_outcome w e a did (after w.ring a e.act did.answer)))
    → (s : Stepped) → step w e ≡ Ok s → P s
each_step w e P none operated made s h =
    let t = step_stages w e s h in
    subst P t.ends
    (IfOk-at_ok (HoldsOf w e t.a P t.access) t.does
    (each_access w.ring e.actor w.at (HoldsOf w e t.a P) (λ n. none t.a t.has n) (λ p op c f k l n. operated t.a p op c f t.has n k l)
    (λ x b n. made t.a x t.has n b) t.access) t.needs)
