-- Positions in a list, counted from 1.
use Rattle.std.specs.Prelude.{◌≡◌, ℕ, ◌<◌, Bool, true, false, List, Some}
use Rattle.std.specs.List.{AllByRecursion}
use Rattle.rd_step.specs.Lists.{numbered}
pub use Rattle.rd_depend.specs.Writers.{last_position, one_further}

-- j is the greatest position whose element passes the test
pub record IsGreatest {X : Type 0} (test : X → Bool) (xs : List X) (j : ℕ) : Type 0 where
  pub element : X
  pub there : numbered xs j ≡ Some element
  pub passes : test element ≡ true
  pub last : (i : ℕ) (y : X) → j < i → numbered xs i ≡ Some y → test y ≡ false

-- no element of the list passes the test
abbrev pub HasNone : {X : Type 0} → (X → Bool) → List X → Type 0
HasNone {X} test xs = AllByRecursion (λ (x : X). test x ≡ false) xs
