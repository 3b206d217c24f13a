-- Putting back the words that an entry keeps gives the world before its step.
use Rattle.rd_step.proofs.Prelude.{◌≡◌, ℕ, true, false, nat_lt, refl, sym, ◌∙◌, subst, arith, Option, Some, None, Ok, ltb-true, cond-false, cond_both, IfOk-at_ok, fun_ext, MOST_SEGMENTS, SegName, Place, Content, is_of_segment, Contents, after_write, operand, restore, is_there, segment_holding, Effect, Performed, contents_after, performed_at, is_cell_place, after_write-outside, Actor, after, World, Event, Stepped, with_actor, step, unstep, Presence, belongs, IsWellFormed, number_made, operand-covered, not_written}
use Rattle.rd_cell.proofs.CountLemmas.{number_made-absent}
use Rattle.rd_step.proofs.Halves.{nothing_there, bare_cell}
use Rattle.rd_step.proofs.Steps.{step_stages, each_access, making}
use Rattle.rd_cell.specs.declared.places.Place.TheVariants as place

-- putting back the old content of an access's place gives the contents before the access
abbrev PutsBack : Contents → Performed → Type 0
PutsBack at did = (q : Place) → restore did.place did.old (contents_after did at) q ≡ at q

-- these contents have no cell as a place
abbrev Bare : Contents → Type 0
Bare at = (q : Place) → is_cell_place q ≡ true → at q ≡ None

-- what an operation did is undone by putting back its operand
back-effect : (p : Place) (c : Content) (e : Effect) (at : Contents) → Bare at → operand at p ≡ Some c → PutsBack at (performed_at p c e)
back-effect p c e at bare h q = grind (arith, cond_both, operand-covered, after_write-outside, not_written)

-- no place of a segment that is not there belongs to the world
pub absent_place : (R : ℕ) (there : Presence) (s : SegName) (q : Place) → there s ≡ false → is_of_segment s q ≡ true → belongs R there q ≡ false
absent_place R there s q h e = grind arith

-- what a making did is undone by removing the segment
back-make : (n x : ℕ) (w : World) → IsWellFormed w → nat_lt (number_made w.at n) MOST_SEGMENTS ≡ true → PutsBack w.at (making w.ring n w.at x)
back-make n x w formed below q =
    let s : SegName = record { maker = n; n = number_made w.at n } in
    cond_both (is_of_segment s q) None (after_write (place.Whole s) (segment_holding w.ring x) w.at q) (λ (o : Option Content). o ≡ w.at q)
    (λ e. sym (nothing_there (w.at q) (formed.places q ∙ absent_place w.ring (is_there w.at) s q (number_made-absent w.at n (ltb-true s.n MOST_SEGMENTS below)) e)))
    (λ e. cond-false (is_of_segment s q) (segment_holding w.ring x q) (w.at q) e)

-- giving one actor its old record back gives the actors before
actor_back : (n : ℕ) (a b : Actor) (actors : ℕ → Option Actor) → actors n ≡ Some a → with_actor n a (with_actor n b actors) ≡ actors
actor_back n a b actors has = grind arith

-- putting back the words that an entry keeps gives the world before its step
pub undoes : (w : World) (e : Event) (s : Stepped) → IsWellFormed w → step w e ≡ Ok s → unstep s.world s.entry ≡ w
undoes w e s formed h =
    let t = step_stages w e s h in
    let contents : PutsBack w.at t.did =
    IfOk-at_ok (PutsBack w.at) t.does
    (each_access w.ring e.actor w.at (λ x did. PutsBack w.at did) (λ q. refl) (λ p op c f found does. back-effect p c f w.at (bare_cell w formed) found)
    (λ x below. back-make e.actor x w formed below) t.access) in
    let next = after w.ring t.a e.act t.did.answer in
    let all = fun_ext contents in
    let actors = actor_back e.actor t.a next.0 w.actor t.has in
    subst (λ (x : Stepped). unstep x.world x.entry ≡ w) t.ends (λ i. record { ring = w.ring; at = all i; actor = actors i })
