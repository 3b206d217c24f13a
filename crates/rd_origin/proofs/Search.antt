-- One turn of the search: the step of a number passes, or the search goes on before it.
use Rattle.rd_origin.proofs.Prelude.{◌≡◌, ℕ, zero, suc, ◌-◌, Bool, true, false, List, take, Some, arith, Entry, numbered, last_position}
use Rattle.rd_depend.proofs.LastPositions.{last-found, last-passed}

-- if the step of number n passes, it is the last among the first n that does
pub found_there : (passes : Entry → Bool) (xs : List Entry) (n : ℕ) (x : Entry) → numbered xs n ≡ Some x → passes x ≡ true
    → last_position passes (take n xs) ≡ Some n
found_there passes xs zero x h k = cc
found_there passes xs (suc i) x h k = last-found passes xs i x h k

-- if the step of number n fails, or there is none, the search goes on below n
pub passed_there : (passes : Entry → Bool) (xs : List Entry) (n : ℕ) → ((x : Entry) → numbered xs n ≡ Some x → passes x ≡ false)
    → last_position passes (take n xs) ≡ last_position passes (take (n - 1) xs)
passed_there passes xs n h = grind (arith, last-passed)
