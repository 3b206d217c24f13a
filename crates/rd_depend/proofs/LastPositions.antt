-- The last position in the first elements of a list, as one more is added.
use Rattle.rd_depend.proofs.Prelude.{◌≡◌, ℕ, zero, suc, Bool, true, false, if◌then◌else◌, refl, ap, List, [], ◌∷◌, take, slice_get, Some, None, arith, one_further, last_position}

-- an element that passes the test is the last of those up to it
pub last-found : {X : Type 0} (test : X → Bool) (xs : List X) (i : ℕ) (x : X) → slice_get xs i ≡ Some x → test x ≡ true
    → last_position test (take (suc i) xs) ≡ Some (suc i)
last-found {X} test (y ∷ ys) (suc i) x h k = ap (one_further (test y)) (last-found test ys i x h k)
last-found {X} test xs i x h k = grind arith

-- an element that fails the test, or none, leaves the last position
pub last-passed : {X : Type 0} (test : X → Bool) (xs : List X) (i : ℕ) → ((x : X) → slice_get xs i ≡ Some x → test x ≡ false)
    → last_position test (take (suc i) xs) ≡ last_position test (take i xs)
last-passed {X} test [] zero h = refl
last-passed {X} test [] (suc i) h = refl
last-passed {X} test (y ∷ ys) zero h = ap (λ (b : Bool). if b then Some 1 else None) (h y refl)
last-passed {X} test (y ∷ ys) (suc i) h = ap (one_further (test y)) (last-passed test ys i h)
