-- Histories. A history is a list of entries, each with the number of the pass that put it.
use Rattle.std.specs.Prelude.{◌≡◌, ◌≢◌, ℕ, suc, ◌<◌, ◌≤◌, ◌==◌, cond, List, [], ◌∷◌, ◌++◌, map}
use Rattle.std.specs.List.{AllByRecursion}

module _ {E : Type 0} where
  -- the entries of a history that this pass put, each with its position in place of the pass's
  -- number; the first entry of the history has position k
  abbrev pub put_by : ℕ → ℕ → List (ℕ × E) → List (ℕ × E)
  put_by pass k [] = []
  put_by pass k (x ∷ xs) = cond (x.0 == pass) ((k, x.1) ∷ put_by pass (suc k) xs) (put_by pass (suc k) xs)

  -- the history `new` begins with `old`, and each entry after that names another pass than this one
  abbrev pub Continues : ℕ → List (ℕ × E) → List (ℕ × E) → Type 0
  Continues pass old new = (between : List (ℕ × E)) × (new ≡ old ++ between) × AllByRecursion (λ (e : ℕ × E). e.0 ≢ pass) between

  -- the entries, each with the number of the pass that puts them
  abbrev pub signed : ℕ → List E → List (ℕ × E)
  signed pass es = map (λ (e : E). (pass, e)) es

  -- the entries, each with its position; the first has position k
  abbrev pub with_positions : ℕ → List E → List (ℕ × E)
  with_positions k [] = []
  with_positions k (e ∷ es) = (k, e) ∷ with_positions (suc k) es

  -- the history `new` begins with `old`, and each entry after that names this pass
  abbrev pub AddsOwn : ℕ → List (ℕ × E) → List (ℕ × E) → Type 0
  AddsOwn pass old new = (es : List E) × (new ≡ old ++ signed pass es)

  -- each entry names a pass whose number is from 1 to n
  abbrev pub NamesUpTo : ℕ → List (ℕ × E) → Type 0
  NamesUpTo n xs = AllByRecursion (λ (x : ℕ × E). (0 < x.0) × (x.0 ≤ n)) xs
