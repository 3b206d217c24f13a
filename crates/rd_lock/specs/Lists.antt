-- Lists of any elements, and lists of numbers.
use Rattle.std.specs.Prelude.{◌≡◌, ◌⊎◌, ℕ, zero, suc, ◌<◌, ◌≤◌, List, [], ◌∷◌, length}
use mathlib.Core.Path.{sym}
use native.Mathlib.Nat.{suc-ne-zero}
use mathlib.Core.List.{IsPrefix}
use Rattle.std.specs.List.{AllByRecursion}

module _ {A : Type 0} where
  -- the element of a list that has just one
  abbrev pub only : (xs : List A) → length xs ≡ 1 → A
  only [] one = absurd (suc-ne-zero 0 (sym one))
  only (x ∷ xs) one = x

  -- the relation R holds between each element of the list and each later one: std's `AllPairs`, by
  -- recursion
  abbrev pub Pairwise : (A → A → Type 0) → List A → Type 0
  Pairwise R [] = Unit {0}
  Pairwise R (x ∷ xs) = AllByRecursion (R x) xs × Pairwise R xs

  -- one of the two lists is a beginning of the other
  abbrev pub AreComparable : List A → List A → Type 0
  AreComparable xs ys = IsPrefix xs ys ⊎ IsPrefix ys xs

-- the number is in the list: std's `Contains`, by recursion
abbrev pub IsIn : ℕ → List ℕ → Type 0
IsIn n [] = ⊥
IsIn n (x ∷ xs) = (x ≡ n) ⊎ IsIn n xs

-- all numbers from 1 to n are in the list
abbrev pub HasAllUpTo : ℕ → List ℕ → Type 0
HasAllUpTo n xs = (k : ℕ) → 0 < k → k ≤ n → IsIn k xs

-- the n numbers from k on, in order
abbrev pub numbers_from : ℕ → ℕ → List ℕ
numbers_from k zero = []
numbers_from k (suc n) = k ∷ numbers_from (suc k) n
