-- The count of a maker's segments in the map.
use Rattle.rd_cell.proofs.Prelude.{◌≡◌, ℕ, zero, suc, ◌+◌, ◌<◌, ◌≤◌, Bool, true, false, if◌then◌else◌, refl, ap₂, arith, is_some, Contents, number_made_from, number_made}
use Rattle.rd_cell.specs.declared.limits.TheConstants.{MOST_SEGMENTS}
use Rattle.rd_cell.specs.declared.places.Place.TheVariants as place
use Rattle.rd_cell.specs.Contents.{is_there}

-- counting a maker's segments gives the same in two maps that have the same segments of the maker
number_made_from-same : (more : ℕ) (at at' : Contents) (maker n : ℕ)
    → ((k : ℕ) → is_some (at (place.Head (record { maker = maker; n = k }))) ≡ is_some (at' (place.Head (record { maker = maker; n = k }))))
    → number_made_from more at maker n ≡ number_made_from more at' maker n
unfolding number_made_from
number_made_from-same zero at at' maker n same = refl
number_made_from-same (suc more) at at' maker n same =
    ap₂ (λ (t : Bool) (m : ℕ). if t then m else n) (same n) (number_made_from-same more at at' maker (n + 1) same)

-- so does the whole count
pub number_made-same : (at at' : Contents) (maker : ℕ)
    → ((k : ℕ) → is_some (at (place.Head (record { maker = maker; n = k }))) ≡ is_some (at' (place.Head (record { maker = maker; n = k }))))
    → number_made at maker ≡ number_made at' maker
unfolding number_made
number_made-same at at' maker same = number_made_from-same MOST_SEGMENTS at at' maker 0 same

-- every number that counting passes names a segment that is there
made_from-below : (more : ℕ) (at : Contents) (m n k : ℕ) → n ≤ k → k < number_made_from more at m n
    → is_there at (record { maker = m; n = k }) ≡ true
unfolding number_made_from
made_from-below zero at m n k h l = absurd (omega arith)
made_from-below (suc more) at m n k h l = grind (arith, made_from-below more at m (n + 1) k)

-- a segment whose number is below its maker's count is there
pub made-below : (at : Contents) (m k : ℕ) → k < number_made at m → is_there at (record { maker = m; n = k }) ≡ true
unfolding number_made
made-below at m k h = made_from-below MOST_SEGMENTS at m 0 k (omega arith) h

-- if counting ends before its bound, the number at which it ends names no segment that is there
number_made_from-absent : (more : ℕ) (at : Contents) (m n : ℕ) → number_made_from more at m n < n + more
    → is_there at (record { maker = m; n = number_made_from more at m n }) ≡ false
unfolding number_made_from
number_made_from-absent zero at m n h = absurd (omega arith)
number_made_from-absent (suc more) at m n h = grind (arith, number_made_from-absent more at m (n + 1))

-- the segment that a maker below its limit makes next is not there
pub number_made-absent : (at : Contents) (m : ℕ) → number_made at m < MOST_SEGMENTS → is_there at (record { maker = m; n = number_made at m }) ≡ false
unfolding number_made
number_made-absent at m h = number_made_from-absent MOST_SEGMENTS at m 0 h
