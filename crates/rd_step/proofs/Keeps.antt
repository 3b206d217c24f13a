-- A step keeps a world well-formed.
use Rattle.rd_step.proofs.Prelude.{◌≡◌, ℕ, Bool, true, ◌==◌, refl, sym, ◌∙◌, ap, subst, Option, Some, is_some, IfSome, Ok, arith, cond_both, IfOk-at_ok, fun_ext, SegName, Place, Content, Access, NoPlace, At, Make, root, operand, contents_after, Contents, is_there, Effect, performed_at, name_eq-refl, Actor, after, World, Event, Stepped, with_actor, step, Presence, belongs, content_fits, place_fits, record_fits, actor_fits, is_actor, IsNumbered, AreMade, IsWellFormed, number_made, performed_at-keeps_places, holds_after_effect}
use Rattle.rd_step.proofs.Halves.{bare_cell, operand_fits, share_fits, same_kinds}
use Rattle.rd_step.proofs.Steps.{each_step}
use Rattle.rd_step.proofs.Fits.{op_fits, access_fits, record_grows, actor_grows, need_fits, Grows, record_fits-well_formed}
use Rattle.rd_step.proofs.Effects.{EffectFits, effect_fits}
use Rattle.rd_step.proofs.Rows.{after_fits}
use Rattle.rd_cell.proofs.CountLemmas.{made-below}
use Rattle.rd_step.proofs.Making.{after_making, after_making-new, after_making-grows, maker_is, after_making-made, after_making-places, after_making-fits}
use Rattle.rd_cell.specs.declared.places.Place.TheVariants as place
use Rattle.rd_cell.specs.declared.operations.Answer.TheVariants as answer

-- giving an actor that is there another record adds no actor
is_actor-same : (n : ℕ) (a b : Actor) (actors : ℕ → Option Actor) → actors n ≡ Some a
    → is_actor (with_actor n b actors) ≡ is_actor actors
is_actor-same n a b actors has = grind arith

-- an operation leaves a content that fits at each place, if what it writes fits
effect_left_fits : (R : ℕ) (there : Presence) (at : Contents) (p : Place) (c : Content) (f : Effect) (q : Place)
    → IfSome f.writes (λ d. content_fits R there p d ≡ true) → place_fits R there q (at q) ≡ true
    → place_fits R there q (contents_after (performed_at p c f) at q) ≡ true
effect_left_fits R there at p c f q fits was =
    holds_after_effect (λ o. place_fits R there q o ≡ true) (λ d. content_fits R there p d ≡ true) p c f at q was fits (λ d h within. share_fits R there p d q h within)

-- a step that adds no actor keeps the world well-formed, if the places, their contents and the
-- actor's next record fit the segments that are there after it, and it removes none
keeps_with : (w : World) (n : ℕ) (a next : Actor) (at : Contents) → IsWellFormed w → w.actor n ≡ Some a → Grows (is_there w.at) (is_there at)
    → AreMade (is_actor w.actor) (is_there at) → ((q : Place) → is_some (at q) ≡ belongs w.ring (is_there at) q)
    → ((q : Place) → place_fits w.ring (is_there at) q (at q) ≡ true) → record_fits w.ring (is_there at) next ≡ true
    → IsWellFormed (record { ring = w.ring; at = at; actor = with_actor n next w.actor })
keeps_with w n a next at formed has more made places contents next_fits =
    let actors : is_actor w.actor ≡ is_actor (with_actor n next w.actor) = sym (is_actor-same n a next w.actor has) in
    record {
      numbered = subst IsNumbered actors formed.numbered;
      made = subst (λ (f : ℕ → Bool). AreMade f (is_there at)) actors made;
      places = places;
      contents = contents;
      actors = λ m.
          cond_both (m == n) (Some next) (w.actor m) (λ (o : Option Actor). actor_fits w.ring (is_there at) o ≡ true) (λ e. next_fits)
          (λ e. actor_grows w.ring (is_there w.at) (is_there at) (w.actor m) more (formed.actors m));
    }

-- a step with an operation keeps the world well-formed, if what it writes and the actor's next
-- record fit
keeps_effect : (w : World) (n : ℕ) (a next : Actor) (p : Place) (c : Content) (f : Effect)
    → IsWellFormed w → w.actor n ≡ Some a → operand w.at p ≡ Some c
    → IfSome f.writes (λ d. content_fits w.ring (is_there w.at) p d ≡ true) → record_fits w.ring (is_there w.at) next ≡ true
    → IsWellFormed (record { ring = w.ring; at = contents_after (performed_at p c f) w.at; actor = with_actor n next w.actor })
keeps_effect w n a next p c f formed has found fits next_fits =
    let at' : Contents = contents_after (performed_at p c f) w.at in
    let here : content_fits w.ring (is_there w.at) p c ≡ true = operand_fits w.ring (is_there w.at) w.at p c formed.contents found in
    let some : (q : Place) → is_some (at' q) ≡ is_some (w.at q) =
    λ q. performed_at-keeps_places p c f w.at q found (bare_cell w formed q) (same_kinds w.ring (is_there w.at) p c f.writes q here fits) in
    let presence : is_there w.at ≡ is_there at' = sym (fun_ext (λ (s : SegName). some (place.Head s))) in
    keeps_with w n a next at' formed has (λ s h. some (place.Head s) ∙ h) (subst (AreMade (is_actor w.actor)) presence formed.made)
    (λ q. some q ∙ formed.places q ∙ ap (λ (there : Presence). belongs w.ring there q) presence)
    (λ q. subst (λ (there : Presence). place_fits w.ring there q (at' q) ≡ true) presence (effect_left_fits w.ring (is_there w.at) w.at p c f q fits (formed.contents q)))
    (subst (λ (there : Presence). record_fits w.ring there next ≡ true) presence next_fits)

-- a step keeps a world well-formed
pub step_keeps_well_formed : (w : World) (e : Event) (s : Stepped) → IsWellFormed w → step w e ≡ Ok s → IsWellFormed s.world
step_keeps_well_formed w e s formed h =
    let there : Presence = is_there w.at in
    each_step w e (λ x. IsWellFormed x.world)
    (λ a has needs.
    keeps_with w e.actor a (after w.ring a e.act answer.Nothing).0 w.at formed has (λ t k. k) formed.made formed.places formed.contents
    (after_fits w.ring there a e.act NoPlace answer.Nothing formed.made.rooted needs refl refl (record_fits-well_formed w e.actor a formed has)))
    (λ a p op c f has needs found does.
    let fits = record_fits-well_formed w e.actor a formed has in
    let good : op_fits w.ring there p op ≡ true = IfOk-at_ok (λ (x : Access). access_fits w.ring there x ≡ true) needs (need_fits w.ring there a e.act fits) in
    let did : EffectFits w.ring there p op f =
    IfOk-at_ok (EffectFits w.ring there p op) does (effect_fits w.ring there p op c good (operand_fits w.ring there w.at p c formed.contents found)) in
    keeps_effect w e.actor a (after w.ring a e.act f.answer).0 p c f formed has found did.0
    (after_fits w.ring there a e.act (At p op) f.answer formed.made.rooted needs did.1 did.2 fits))
    (λ a x has needs below.
    let t : SegName = record { maker = e.actor; n = number_made w.at e.actor } in
    let at' : Contents = after_making w.ring t x w.at in
    let more = after_making-grows w.ring t x w.at in
    let maker = maker_is (is_actor w.actor) e.actor t.n formed.numbered.from_one (ap is_some has) below in
    keeps_with w e.actor a (after w.ring a e.act (answer.Made t)).0 at' formed has more
    (after_making-made w.ring t x w.at (is_actor w.actor) maker (made-below w.at e.actor) formed.made)
    (after_making-places w.ring t x w.at formed.places) (after_making-fits w.ring t x w.at formed.contents)
    (after_fits w.ring (is_there at') a e.act (Make x) (answer.Made t) (more root formed.made.rooted) needs (after_making-new w.ring t x w.at t (name_eq-refl t)) refl
    (record_grows w.ring there (is_there at') a more (record_fits-well_formed w e.actor a formed has))))
    s h
