-- A making keeps a world well-formed: the new segment is its maker's next one, and just the places
-- that belong to it are added.
use Rattle.rd_step.proofs.Prelude.{◌≡◌, ℕ, suc, ◌<◌, Bool, true, false, not, nat_lt, inl, inr, ap, subst, arith, Some, is_some, cond-true, cond-false, MOST_SEGMENTS, SegName, Place, root, name_eq, Contents, is_there, after_write, segment_holding, name_eq-true, belongs, place_fits, may_be_there, AreMade, ◌⊎◌}
use Rattle.rd_step.proofs.Fits.{Grows}
use Rattle.rd_cell.specs.declared.places.Place.TheVariants as place
use Rattle.rd_cell.specs.declared.contents.Content.TheVariants as content

-- the contents after the making of segment s, which holds x
abbrev pub after_making : ℕ → SegName → ℕ → Contents → Contents
after_making R s x at = after_write (place.Whole s) (segment_holding R x) at

-- the new segment is there
pub after_making-new : (R : ℕ) (s : SegName) (x : ℕ) (at : Contents) (t : SegName) → name_eq s t ≡ true → is_there (after_making R s x at) t ≡ true
after_making-new R s x at t e = ap is_some (cond-true (name_eq s t) (Some (content.Number 0)) (at (place.Head t)) e)

-- a making adds and removes no other segment
pub after_making-other : (R : ℕ) (s : SegName) (x : ℕ) (at : Contents) (t : SegName) → name_eq s t ≡ false
    → is_there (after_making R s x at) t ≡ is_there at t
after_making-other R s x at t e = ap is_some (cond-false (name_eq s t) (Some (content.Number 0)) (at (place.Head t)) e)

-- a making removes no segment
pub after_making-grows : (R : ℕ) (s : SegName) (x : ℕ) (at : Contents) → Grows (is_there at) (is_there (after_making R s x at))
after_making-grows R s x at t h = grind arith

-- an actor may be the maker of a segment whose number is below 65,535
pub maker_is : (is_actor : ℕ → Bool) (m n : ℕ) → not (is_actor 0) ≡ true → is_actor m ≡ true → nat_lt n MOST_SEGMENTS ≡ true
    → may_be_there is_actor m n ≡ true
maker_is is_actor m n h k l = grind arith

-- a segment that is there after a making is the new one, or was there before
after_making-cases : (R : ℕ) (s : SegName) (x : ℕ) (at : Contents) (t : SegName) → is_there (after_making R s x at) t ≡ true → (s ≡ t) ⊎ (is_there at t ≡ true)
after_making-cases R s x at t h = grind (arith, name_eq-true)

-- after a making, actors made all segments but the root, and no maker's numbers have a gap
pub after_making-made : (R : ℕ) (s : SegName) (x : ℕ) (at : Contents) (is_actor : ℕ → Bool) → may_be_there is_actor s.maker s.n ≡ true
    → ((k : ℕ) → k < s.n → is_there at (record { maker = s.maker; n = k }) ≡ true) → AreMade is_actor (is_there at)
    → AreMade is_actor (is_there (after_making R s x at))
after_making-made R s x at is_actor fits below were = record {
  rooted = after_making-grows R s x at root were.rooted;
  makers = λ t h.
      elim (after_making-cases R s x at t h) [ inl e ↦ subst (λ (u : SegName). may_be_there is_actor u.maker u.n ≡ true) e fits | inr k ↦ were.makers t k ];
  no_gap = λ m n h.
      after_making-grows R s x at (record { maker = m; n = n })
      (elim (after_making-cases R s x at (record { maker = m; n = suc n }) h) [ inl e ↦ grind (arith, below n) | inr k ↦ were.no_gap m n k ]);
}

-- after a making, exactly the places that belong to the world are there
pub after_making-places : (R : ℕ) (s : SegName) (x : ℕ) (at : Contents) → ((p : Place) → is_some (at p) ≡ belongs R (is_there at) p) → (p : Place)
    → is_some (after_making R s x at p) ≡ belongs R (is_there (after_making R s x at)) p
after_making-places R s x at were p = grind arith

-- after a making, every content fits its place
pub after_making-fits : (R : ℕ) (s : SegName) (x : ℕ) (at : Contents) → ((p : Place) → place_fits R (is_there at) p (at p) ≡ true) → (p : Place)
    → place_fits R (is_there (after_making R s x at)) p (after_making R s x at p) ≡ true
after_making-fits R s x at were p = grind arith
