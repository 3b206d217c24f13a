-- Entries by their numbers in the slab that keeps them, and orders of such numbers.
use Rattle.std.specs.Prelude.{◌≡◌, ℕ, ◌-◌, ◌==◌, nat_lt, if◌then◌else◌, List, length, take, drop}
use Rattle.std.specs.List.{flat_map, count_by}

-- the slab's entries of these numbers, from 0, in the order in which the numbers are listed; a
-- number without an entry gives none
abbrev pub at_numbers : {X : Type 0} → List X → List ℕ → List X
at_numbers entries numbers = flat_map (λ n. take 1 (drop n entries)) numbers

-- the list of just the k-th element, counted from 1; empty if the list has fewer than k. k must be
-- at least 1
abbrev pub only_numbered : {X : Type 0} → List X → ℕ → List X
only_numbered xs k = take 1 (drop (k - 1) xs)

-- the list is an order of this many entries: it has the number of each, from 0, once, and no other
-- number
pub record IsOrder (count : ℕ) (order : List ℕ) : Type 0 where
  pub once : (n : ℕ) → count_by (λ m. m == n) order ≡ (if nat_lt n count then 1 else 0)
  pub all : length order ≡ count
