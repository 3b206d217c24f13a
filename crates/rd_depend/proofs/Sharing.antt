-- Two entries depend on each other exactly if they have one actor, or share a place of the map that
-- one of them wrote.
use Rattle.rd_depend.proofs.Prelude.{◌≡◌, ◌↔◌, ◌⊎◌, Bool, true, false, inl, inr, Option, Some, eq-eqb, arith, or_cases, covers-refl, some_overlap_of_covers, written-covers, Place, covers, overlaps, some_covers, some_overlap, written, interfere, depends, Entry, is_of_map, wrote, ShareWrittenPlace, either_wrote}
use Rattle.rd_cell.specs.declared.places.Place.TheVariants as place

-- one place of the map that a place names: itself, or one of several
abbrev covered_place : Place → Place
covered_place (place.Cell s i) = place.Val s i
covered_place (place.Whole s) = place.Head s
covered_place p = p

covered_place-of_map : (p : Place) → is_of_map (covered_place p) ≡ true
covered_place-of_map p = grind arith

-- what covers a place covers this part of it
covers-covered_place : (p q : Place) → covers p q ≡ true → covers p (covered_place q) ≡ true
covers-covered_place p q h = grind arith

-- a place of the map that two overlapping places both cover
record Common (o p : Option Place) : Type 0 where
  pub place : Place
  pub of_map : is_of_map place ≡ true
  pub first : some_covers o place ≡ true
  pub second : some_covers p place ≡ true

common : (p q : Place) → overlaps p q ≡ true → Common (Some p) (Some q)
common p q h =
    elim (or_cases (covers p q) (covers q p) h) [
      | inl a ↦ record { place = covered_place q; of_map = covered_place-of_map q; first = covers-covered_place p q a; second = covers-covered_place q q (covers-refl q) }
      | inr b ↦ record { place = covered_place p; of_map = covered_place-of_map p; first = covers-covered_place p p (covers-refl p); second = covers-covered_place q p b }
    ]

some_common : (o p : Option Place) → some_overlap o p ≡ true → Common o p
some_common o p h = grind (arith, common)

shares : (x y : Entry) → interfere x.place x.wrote y.place y.wrote ≡ true → ShareWrittenPlace x y
shares x y h =
    elim (or_cases (some_overlap (written x.place x.wrote) y.place) (some_overlap x.place (written y.place y.wrote)) h) [
      | inl a ↦
          let c = some_common (written x.place x.wrote) y.place a in
          record { common = c.place; is_of_the_map = c.of_map; first = grind (arith, written-covers); second = c.second; one_wrote = grind arith }
      | inr b ↦
          let c = some_common x.place (written y.place y.wrote) b in
          record { common = c.place; is_of_the_map = c.of_map; first = c.first; second = grind (arith, written-covers); one_wrote = grind arith }
    ]

interferes : (x y : Entry) → ShareWrittenPlace x y → interfere x.place x.wrote y.place y.wrote ≡ true
interferes x y s =
    elim (or_cases (wrote x s.common) (wrote y s.common) s.one_wrote) [
      | inl a ↦ let meet = some_overlap_of_covers (written x.place x.wrote) y.place s.common a s.second in grind arith
      | inr b ↦ let meet = some_overlap_of_covers x.place (written y.place y.wrote) s.common s.first b in grind arith
    ]

pub depends-shares : (x y : Entry) → (depends x y ≡ true) ↔ ((x.event.actor ≡ y.event.actor) ⊎ ShareWrittenPlace x y)
depends-shares x y = grind (arith, or_cases, shares, eq-eqb, interferes)

-- where two entries interfere, one of them wrote, and their places overlap

by_one : (x y : Entry) → ShareWrittenPlace x y → either_wrote x y ≡ true
by_one x y s = grind arith

not_so : (b c : Bool) → (b ≡ true → c ≡ true) → c ≡ false → b ≡ false
not_so b c f h = grind arith

pub no_write-no_interference : (x y : Entry) → either_wrote x y ≡ false → interfere x.place x.wrote y.place y.wrote ≡ false
no_write-no_interference x y = not_so (interfere x.place x.wrote y.place y.wrote) (either_wrote x y) (λ h. by_one x y (shares x y h))

pub no_overlap-no_interference : (x y : Entry) → some_overlap x.place y.place ≡ false → interfere x.place x.wrote y.place y.wrote ≡ false
no_overlap-no_interference x y = grind (arith, not_so, shares, some_overlap_of_covers)
