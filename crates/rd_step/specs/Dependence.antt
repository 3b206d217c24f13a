-- Which steps depend on each other, the run without a step, and the causal closure of a step (Danos
-- and Krivine 2004: what must be undone first; places and symmetry are our profile's).
use Rattle.std.specs.Prelude.{◌≡◌, ◌<◌, ◌≤◌, true, false, ℕ, zero, suc, ◌+◌, ◌-◌, Bool, nat_lt, ◌==◌, ◌||◌, if◌then◌else◌, List, [], ◌∷◌, ◌++◌, length, drop, Option, Some, None, option_and_then}
use Rattle.std.specs.List.{list_any, position_from, items_where_true}
use Rattle.rd_ring.specs.Prelude.{interfere}
use Rattle.rd_step.specs.declared.entries.Entry.{Entry}
use Rattle.rd_step.specs.Lists.{numbered, without}

-- whether two steps depend on each other: one actor made both, or one of them wrote a place that
-- both touched
abbrev pub depends : Entry → Entry → Bool
depends x y = (x.event.actor == y.event.actor) || interfere x.place x.wrote y.place y.wrote

-- x is free: none of these entries depends on it
abbrev pub IsFree : Entry → List Entry → Type 0
IsFree x ys = list_any (depends x) ys ≡ false

-- the first position after k, counted from 1, whose entry depends on the entry at k; none if there
-- is no such position or no entry at k
abbrev pub first_dependant : List Entry → ℕ → Option ℕ
first_dependant entries k = option_and_then (λ x. position_from (depends x) (k + 1) (drop k entries)) (numbered entries k)

-- the causal closure of position k: the least set of positions, counted from 1, that has k and,
-- with each position, every later one whose entry depends on the entry there
pub data IsInClosure (entries : List Entry) (k : ℕ) : ℕ → Type 0 where
  itself : IsInClosure entries k k
  dependant : (i j : ℕ) (x y : Entry) → IsInClosure entries k i → i < j → numbered entries i ≡ Some x → numbered entries j ≡ Some y
      → depends x y ≡ true → IsInClosure entries k j

-- whether y depends on at least one of these entries
abbrev pub depends_on_any : List Entry → Entry → Bool
depends_on_any xs y = list_any (λ x. depends x y) xs

-- for each entry of the second list, whether it depends on an entry of the first list, or on an
-- earlier entry of the second for which this is `true`
abbrev pub closure_from : List Entry → List Entry → List Bool
closure_from xs [] = []
closure_from xs (y ∷ ys) = depends_on_any xs y ∷ closure_from (if depends_on_any xs y then xs ++ y ∷ [] else xs) ys

-- for each position, from 1 on, whether it is in the causal closure of position k; never if k is
-- past the end. If k is 0, the list is empty
abbrev pub closure : List Entry → ℕ → List Bool
closure entries zero = []
closure [] (suc k) = []
closure (x ∷ xs) (suc zero) = true ∷ closure_from (x ∷ []) xs
closure (x ∷ xs) (suc (suc k)) = false ∷ closure xs (suc k)

-- the elements of the second list where the first has no `true`, in their order
abbrev pub items_where_false : {X : Type 0} → List Bool → List X → List X
items_where_false [] xs = xs
items_where_false (b ∷ bs) [] = []
items_where_false (true ∷ bs) (x ∷ xs) = items_where_false bs xs
items_where_false (false ∷ bs) (x ∷ xs) = x ∷ items_where_false bs xs

-- the entries in the causal closure of position k, in their order
abbrev pub closure_entries : List Entry → ℕ → List Entry
closure_entries entries k = items_where_true (closure entries k) entries

-- the entries outside the causal closure of position k, in their order
abbrev pub without_closure : List Entry → ℕ → List Entry
without_closure entries k = items_where_false (closure entries k) entries

-- the entries of these numbers can be undone one after another, each by itself: each is there, and
-- no later entry that is left depends on it. A number is a position, from 1, among the entries that
-- are left at its turn
abbrev pub AreLoneUndos : List ℕ → List Entry → Type 0
AreLoneUndos [] entries = Unit {0}
AreLoneUndos (n ∷ ns) entries =
    (1 ≤ n) × (n ≤ length entries) × (first_dependant entries n ≡ None) × AreLoneUndos ns (without entries n)

-- the position that the entry at position k has after the entries of these numbers, which count as
-- in `AreLoneUndos`, were undone one after another; none if it was undone itself
abbrev pub number_after_undos : List ℕ → ℕ → Option ℕ
number_after_undos [] k = Some k
number_after_undos (n ∷ ns) k = if n == k then None else number_after_undos ns (if nat_lt n k then k - 1 else k)
