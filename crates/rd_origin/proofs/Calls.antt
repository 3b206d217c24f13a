-- Along a run, an actor that begins no other call stays in its call or becomes idle, and a cell
-- into which nothing is put keeps its value or loses it.
use Rattle.rd_origin.proofs.Prelude.{◌≡◌, ℕ, Bool, true, false, ◌==◌, ◌&&◌, inl, inr, sym, ◌∙◌, ap, subst, eqb-true, List, [], ◌∷◌, Option, Some, None, Ok, cond_both, and_parts, cond-true, Place, World, Stepped, step, Ran, run, Op, Event, Entry, step_stages, events, is_call, puts_into, begins_call, Actor, after, beginning}
use Rattle.rd_cell.proofs.ResultLemmas.{same_Ok}
use Rattle.rd_origin.specs.Positions.{HasNone}
use Rattle.rd_origin.proofs.Rows.{IsStill}
use Rattle.rd_origin.proofs.Ops.{called, after_still, after_call}
use Rattle.rd_origin.proofs.Values.{HoldsOnly}
use Rattle.rd_origin.proofs.Steps.{value_stays}

-- the actor, if there is one, is in this call or idle
abbrev pub IsIn : Option Op → Option Actor → Type 0
IsIn o None = Unit {0}
IsIn o (Some a) = IsStill o a.op

still-trans : (o p r : Option Op) → IsStill o p → IsStill p r → IsStill o r
still-trans o p r h (inl same) = elim h [ inl e ↦ inl (same ∙ e) | inr e ↦ inr (same ∙ e) ]
still-trans o p r h (inr none) = inr none

-- a step that begins a call leaves its actor in that call
pub begun : (w : World) (e : Event) (s : Stepped) (n : ℕ) → step w e ≡ Ok s → begins_call n s.entry ≡ true
    → IsIn (called s.entry.event.act) (s.world.actor n)
begun w e s n goes h =
    let t = step_stages w e s goes in
    subst (λ (x : Stepped). begins_call n x.entry ≡ true → IsIn (called x.entry.event.act) (x.world.actor n)) t.ends
    (λ k.
    let parts = and_parts (n == e.actor) (is_call e.act) k in
    subst (IsIn (called e.act)) (sym (cond-true (n == e.actor) (Some (after w.ring t.a e.act t.did.answer).0) (w.actor n) parts.0))
    (inl (after_call w.ring t.a e.act t.did.answer parts.1))) h

-- a step in which the actor begins no call leaves it in its call, or idle
call_stays : (w : World) (e : Event) (s : Stepped) (n : ℕ) (o : Option Op) → step w e ≡ Ok s → begins_call n s.entry ≡ false
    → IsIn o (w.actor n) → IsIn o (s.world.actor n)
call_stays w e s n o goes h was =
    let t = step_stages w e s goes in
    let next : Actor = (after w.ring t.a e.act t.did.answer).0 in
    subst (λ (x : Stepped). begins_call n x.entry ≡ false → IsIn o (x.world.actor n)) t.ends
    (λ k.
    cond_both (n == e.actor) (Some next) (w.actor n) (IsIn o)
    (λ same.
    let its : w.actor n ≡ Some t.a = ap w.actor (eqb-true n e.actor same) ∙ t.has in
    let no_call : is_call e.act ≡ false = ap (λ (b : Bool). b && is_call e.act) (sym same) ∙ k in
    still-trans o t.a.op next.op (subst (IsIn o) its was) (after_still w.ring t.a e.act t.did.answer no_call))
    (λ other. was)) h

-- what every step that fails the test keeps, a run of such steps keeps
pub stays_along : (P : World → Type 0) (test : Entry → Bool)
    → ((w : World) (e : Event) (s : Stepped) → step w e ≡ Ok s → test s.entry ≡ false → P w → P s.world) → (w v : World) (xs : List Entry)
    → run w (events xs) ≡ Ok (record { world = v; entries = xs }) → HasNone test xs → P w → P v
stays_along P test stays w v [] h none was =
    subst P (ap (λ (y : Ran). y.world) (same_Ok (record { world = w; entries = [] }) (record { world = v; entries = [] }) h)) was
stays_along P test stays w v (x ∷ xs) h none was =
    let first = beginning w x xs v h in
    stays_along P test stays first.after v xs first.rest none.1 (stays w x.event (record { world = first.after; entry = x }) first.goes none.0 was)

-- along a run in which an actor begins no other call, it stays in its call, or is idle
pub call_stays_along : (n : ℕ) (o : Option Op) (w v : World) (xs : List Entry) → run w (events xs) ≡ Ok (record { world = v; entries = xs })
    → HasNone (begins_call n) xs → IsIn o (w.actor n) → IsIn o (v.actor n)
call_stays_along n o = stays_along (λ u. IsIn o (u.actor n)) (begins_call n) (λ w e s goes h was. call_stays w e s n o goes h was)

-- along a run that puts nothing into a cell, the cell has its value, or none
pub value_stays_along : (q : Place) (u : ℕ) (w v : World) (xs : List Entry) → run w (events xs) ≡ Ok (record { world = v; entries = xs })
    → HasNone (puts_into q) xs → HoldsOnly u w.at q → HoldsOnly u v.at q
value_stays_along q u = stays_along (λ v. HoldsOnly u v.at q) (puts_into q) (λ w e s goes h was. value_stays w e s q u goes h was)
