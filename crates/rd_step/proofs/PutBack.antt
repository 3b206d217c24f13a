-- A step removes no place and makes no segment of another actor, and the words that its entry keeps
-- may be put back after it.
use Rattle.rd_step.proofs.Prelude.{◌≡◌, ◌≢◌, ℕ, suc, ◌+◌, ◌<◌, ◌≤◌, Bool, true, false, not, ◌==◌, nat_lt, ◌∙◌, ap, subst, arith, Some, None, is_some, Ok, IfOk, ltb-true, segment_holding, and_right, both_ways, IfOk-at_ok, MOST_SEGMENTS, operand, SegName, Place, Content, Access, is_of_segment, Contents, is_there, Effect, Performed, contents_after, make, perform, performed_at, result_map, name_eq-refl, is_cell_place, Actor, World, Event, Stepped, step, CanPutBack, content_fits, place_fits, IsWellFormed, ne_eqb, false_from_ne_true, number_made, operate-keeps_places}
use Rattle.rd_step.proofs.Halves.{bare_cell, operand_fits}
use Rattle.rd_step.proofs.Steps.{step_stages, each_step, making}
use Rattle.rd_step.proofs.Making.{after_making-new, after_making-other}
use Rattle.rd_cell.proofs.CountLemmas.{number_made-absent}
use Rattle.rd_step.proofs.Inverse.{absent_place}
use Rattle.rd_cell.specs.declared.places.Place.TheVariants as place

-- Which places are there

-- q is there after the access exactly if it was there before
abbrev StaysAt : Contents → Place → Performed → Type 0
StaysAt at q did = is_some (contents_after did at q) ≡ is_some (at q)

-- a making adds and removes no place of another segment
stays-make : (R : ℕ) (s : SegName) (x : ℕ) (at : Contents) (q : Place) → (s.n < MOST_SEGMENTS → is_of_segment s q ≡ false)
    → IfOk (make s (segment_holding R x)) (StaysAt at q)
stays-make R s x at q other = grind arith

-- an access adds and removes no place, except places of its actor's next segment
stays-perform : (R actor : ℕ) (at : Contents) (x : Access) (q : Place) → (is_cell_place q ≡ true → at q ≡ None)
    → (number_made at actor < MOST_SEGMENTS → is_of_segment (record { maker = actor; n = number_made at actor }) q ≡ false) → IfOk (perform R actor at x) (StaysAt at q)
stays-perform R actor at x q bare other = grind (arith, operate-keeps_places, stays-make)

-- a place that is there belongs to no segment that an actor may make next
not_next : (w : World) (n : ℕ) (q : Place) → IsWellFormed w → is_some (w.at q) ≡ true → number_made w.at n < MOST_SEGMENTS
    → is_of_segment (record { maker = n; n = number_made w.at n }) q ≡ false
not_next w n q formed there below =
    let s : SegName = record { maker = n; n = number_made w.at n } in
    false_from_ne_true (is_of_segment s q) (λ e. both_ways (is_some (w.at q)) (formed.places q ∙ absent_place w.ring (is_there w.at) s q (number_made-absent w.at n below) e) there)

-- a step removes no place
pub stays_at : (w : World) (e : Event) (s : Stepped) (q : Place) → IsWellFormed w → step w e ≡ Ok s → is_some (w.at q) ≡ true
    → is_some (s.world.at q) ≡ true
stays_at w e s q formed h there =
    let t = step_stages w e s h in
    let same : StaysAt w.at q t.did = IfOk-at_ok (StaysAt w.at q) t.does (stays-perform w.ring e.actor w.at t.access q (bare_cell w formed q) (not_next w e.actor q formed there)) in
    subst (λ (x : Stepped). is_some (x.world.at q) ≡ true) t.ends (same ∙ there)

-- a step by one actor adds and removes no segment of another maker
pub others_stay : (w : World) (e : Event) (s : Stepped) (n k : ℕ) → step w e ≡ Ok s → (n == s.entry.event.actor) ≡ false
    → is_there s.world.at (record { maker = n; n = k }) ≡ is_there w.at (record { maker = n; n = k })
others_stay w e s n k h other = grind arith

-- What may be put back

-- the world went on from `after` to `at`: no place was removed, every content fits, and actor n
-- made no further segment
record GoesOn (R n : ℕ) (after at : Contents) : Type 0 where
  pub fits : (q : Place) → place_fits R (is_there at) q (at q) ≡ true
  pub stays : (q : Place) → is_some (after q) ≡ true → is_some (at q) ≡ true
  pub made : (k : ℕ) → is_there at (record { maker = n; n = k }) ≡ is_there after (record { maker = n; n = k })

-- the old content of an operation's place may be put back after the world went on
CanPutBack-effect : (R n : ℕ) (w : World) (at : Contents) (p : Place) (c : Content) (f : Effect) → operand w.at p ≡ Some c
    → content_fits w.ring (is_there w.at) p c ≡ true → ((q : Place) → StaysAt w.at q (performed_at p c f))
    → GoesOn R n (contents_after (performed_at p c f) w.at) at → CanPutBack at (Some p) (Some c)
CanPutBack-effect R n w at p c f found fits stays on = grind arith

-- an actor's number is not 0
actor_number_positive : (is_actor : ℕ → Bool) (n : ℕ) → not (is_actor 0) ≡ true → is_actor n ≡ true → 1 ≤ n
actor_number_positive is_actor n h k = grind arith

-- a segment that an actor made may be removed after the world went on
CanPutBack-making : (w : World) (R n x : ℕ) (a : Actor) (at : Contents) → IsWellFormed w → w.actor n ≡ Some a → nat_lt (number_made w.at n) MOST_SEGMENTS ≡ true
    → GoesOn R n (contents_after (making w.ring n w.at x) w.at) at → CanPutBack at (making w.ring n w.at x).place None
CanPutBack-making w R n x a at formed has below on =
    let m : ℕ = number_made w.at n in
    let s : SegName = record { maker = n; n = m } in
    let next : SegName = record { maker = n; n = m + 1 } in
    let absent : is_there w.at s ≡ false = number_made-absent w.at n (ltb-true m MOST_SEGMENTS below) in
    let not_next : is_there w.at next ≡ false = false_from_ne_true (is_there w.at next) (λ there.
    let more : m + 1 ≡ suc m = omega arith in
    both_ways (is_there w.at s) absent
    (formed.made.no_gap n m (subst (λ (j : ℕ). is_there w.at (record { maker = n; n = j }) ≡ true) more there))) in
    let other : m ≢ m + 1 = λ e. omega arith in
    record {
      here = on.stays (place.Head s) (after_making-new w.ring s x w.at s (name_eq-refl s));
      made = actor_number_positive (λ k. is_some (w.actor k)) n formed.numbered.from_one (ap is_some has);
      last = on.made (m + 1) ∙ after_making-other w.ring s x w.at next (and_right (n == n) (m == m + 1) (ne_eqb m (m + 1) other)) ∙ not_next;
    }

-- the words that a step's entry keeps may be put back where every place is there that was there
-- after the step, and the actor has made no further segment
pub CanPutBack-entry : (w : World) (e : Event) (s : Stepped) (R : ℕ) (at : Contents) → IsWellFormed w → step w e ≡ Ok s
    → ((q : Place) → is_some (s.world.at q) ≡ true → is_some (at q) ≡ true)
    → ((k : ℕ) → is_there at (record { maker = s.entry.event.actor; n = k }) ≡ is_there s.world.at (record { maker = s.entry.event.actor; n = k }))
    → ((q : Place) → place_fits R (is_there at) q (at q) ≡ true) → CanPutBack at s.entry.place s.entry.old_content
CanPutBack-entry w e s R at formed h stays same fits =
    each_step w e (λ x. GoesOn R x.entry.event.actor x.world.at at → CanPutBack at x.entry.place x.entry.old_content)
    (λ a has needs on. tt)
    (λ a p op c f has needs found does on.
    CanPutBack-effect R e.actor w at p c f found (operand_fits w.ring (is_there w.at) w.at p c formed.contents found)
    (λ q. IfOk-at_ok (StaysAt w.at q) (ap (result_map (performed_at p c)) does) (operate-keeps_places p op (Some c) w.at q found (bare_cell w formed q))) on)
    (λ a x has needs below on. CanPutBack-making w R e.actor x a at formed has below on)
    s h (record { fits = fits; stays = stays; made = same })
