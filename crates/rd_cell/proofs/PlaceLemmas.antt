-- Equality and overlap of places.
use Rattle.rd_cell.proofs.Prelude.{◌≡◌, ℕ, true, ◌==◌, refl, eq-eqb, Option, Some, None, arith, and_from, or_left, or_right, SegName, Wrote, name_eq, is_of_segment, is_of_cell, place_eq, covers, overlaps, some_covers, some_overlap, written, interfere}
use Rattle.rd_cell.specs.declared.places.Place.{Place}
use Rattle.rd_cell.specs.declared.places.Place.TheVariants as place

-- two names are equal if the test says so
pub name_eq-true : (s t : SegName) → name_eq s t ≡ true → s ≡ t
name_eq-true s t h = grind arith

-- a name equals itself
pub name_eq-refl : (s : SegName) → name_eq s s ≡ true
name_eq-refl s = and_from (s.maker == s.maker) (s.n == s.n) (eq-eqb s.maker s.maker refl) (eq-eqb s.n s.n refl)

-- two places are equal if the test says so
pub place_eq-true : (p q : Place) → place_eq p q ≡ true → p ≡ q
place_eq-true p q h = grind arith

-- a place equals itself
pub place_eq-refl : (p : Place) → place_eq p p ≡ true
place_eq-refl p = grind arith

-- a place is of one segment only: two segments that it is of have equal names
pub is_of_segment-name : (s t : SegName) (q : Place) → is_of_segment s q ≡ true → is_of_segment t q ≡ true → name_eq s t ≡ true
is_of_segment-name s t q h k = grind arith

-- a cell and its halves are of the cell's segment
pub is_of_cell-is_of_segment : (s : SegName) (i : ℕ) (q : Place) → is_of_cell s i q ≡ true → is_of_segment s q ≡ true
is_of_cell-is_of_segment s i q h = grind arith

-- a place is of one cell only: two cells that it is of are equal
one_cell : (s t : SegName) (i j : ℕ) (q : Place) → is_of_cell s i q ≡ true → is_of_cell t j q ≡ true → is_of_cell s i (place.Cell t j) ≡ true
one_cell s t i j q h l = grind arith

-- the ways in which p covers q: p is q, the cell of q, or the whole of q's segment
pub data Covering (p q : Place) : Type 0 where
  itself : p ≡ q → Covering p q
  as_cell : (s : SegName) (i : ℕ) → p ≡ place.Cell s i → is_of_cell s i q ≡ true → Covering p q
  as_whole : (s : SegName) → p ≡ place.Whole s → is_of_segment s q ≡ true → Covering p q

-- if p covers q, it does so in one of these ways
pub covers_cases : (p q : Place) → covers p q ≡ true → Covering p q
covers_cases (place.Whole s) q h = as_whole s refl h
covers_cases (place.Cell s i) q h = as_cell s i refl h
covers_cases p q h = itself (place_eq-true p q h)

-- a place covers itself
pub covers-refl : (p : Place) → covers p p ≡ true
covers-refl p = grind arith

-- two places that cover a third overlap
pub overlaps_of_covers : (p q r : Place) → covers p r ≡ true → covers q r ≡ true → overlaps p q ≡ true
overlaps_of_covers p q r h k = grind (arith, covers_cases, or_left, or_right, one_cell, is_of_segment-name, is_of_cell-is_of_segment)

-- Places that may be absent

-- overlap is symmetric
pub some_overlap-sym : (p q : Option Place) → some_overlap p q ≡ true → some_overlap q p ≡ true
some_overlap-sym p q h = grind arith

-- two places, both perhaps absent, overlap if they cover a third
pub some_overlap_of_covers : (p q : Option Place) (r : Place) → some_covers p r ≡ true → some_covers q r ≡ true → some_overlap p q ≡ true
some_overlap_of_covers (Some p) (Some q) r h k = overlaps_of_covers p q r h k
some_overlap_of_covers None q r h k = cc
some_overlap_of_covers (Some p) None r h k = cc

-- What was written is of the place

-- a place covers what was written of it
pub written-covers : (p : Option Place) (w : Wrote) (q : Place) → some_covers (written p w) q ≡ true → some_covers p q ≡ true
written-covers p w q h = grind arith

-- interference is symmetric
pub interfere-sym : (p q : Option Place) (v w : Wrote) → interfere p v q w ≡ interfere q w p v
interfere-sym p q v w = grind arith
