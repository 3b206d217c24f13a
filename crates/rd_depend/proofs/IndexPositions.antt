-- The positions of the entries that pass a test: in a list with one more entry, and in two lists
-- joined.
use Rattle.rd_depend.proofs.Prelude.{common_steps, cond, append-nil, Entry, AscendsFrom, IsAscending, positions_from, positions, count_by, ◌≡◌, ℕ, ◌+◌, ◌-◌, Bool, if◌then◌else◌, List, [], ◌∷◌, ◌++◌, length, take, refl, ap, arith}
use Rattle.rd_depend.proofs.IndexLists.{ascends_lower}
use Rattle.std.proofs.lemmas.List.Sums.{sum_by-append, sum_by-cons}

-- the positions ascend
pub positions-ascend : (test : Entry → Bool) (n : ℕ) (es : List Entry) → AscendsFrom n (positions_from test n es)
positions-ascend test n [] = tt
positions-ascend test n (x ∷ xs) = grind (arith, ascends_lower, positions-ascend test (n + 1) xs)

pub ascending : (test : Entry → Bool) (es : List Entry) → IsAscending (positions test es)
ascending test es = ascends_lower 0 1 (positions test es) (omega arith) (positions-ascend test 1 es)

-- the number of entries that pass

pub count_by-cons : (test : Entry → Bool) (x : Entry) (xs : List Entry) → count_by test (x ∷ xs) ≡ cond (test x) 1 0 + count_by test xs
count_by-cons test x xs = sum_by-cons (λ (y : Entry). cond (test y) 1 0) x xs

pub count_by-append : (test : Entry → Bool) (xs ys : List Entry) → count_by test (xs ++ ys) ≡ count_by test xs + count_by test ys
count_by-append test xs ys = sum_by-append (λ (y : Entry). cond (test y) 1 0) xs ys

-- there are as many positions as entries that pass
pub positions-number : (test : Entry → Bool) (n : ℕ) (es : List Entry) → length (positions_from test n es) ≡ count_by test es
positions-number test n [] = refl
positions-number test n (x ∷ xs) = grind (arith, count_by-cons test x xs, positions-number test (n + 1) xs)

-- the positions in two lists joined
pub positions-append : (test : Entry → Bool) (n m : ℕ) (xs ys : List Entry) → m ≡ n + length xs
    → positions_from test n (xs ++ ys) ≡ positions_from test n xs ++ positions_from test m ys
positions-append test n m [] ys e = let same : n ≡ m = omega arith in ap (λ (i : ℕ). positions_from test i ys) same
positions-append test n m (x ∷ xs) ys e = grind (arith, positions-append test (n + 1) m xs ys (omega arith))

-- the positions in a list with one more entry
pub positions-push : (test : Entry → Bool) (n : ℕ) (es : List Entry) (x : Entry)
    → positions_from test n (es ++ x ∷ []) ≡ (if test x then positions_from test n es ++ (n + length es) ∷ [] else positions_from test n es)
positions-push test n es x = grind (arith, positions-append test n (n + length es) es (x ∷ []), append-nil)

-- with the last entry removed, the last position goes if that entry passed the test
pub positions-pop : (test : Entry → Bool) (es : List Entry) (x : Entry) (ps : List ℕ) → ps ≡ positions test (es ++ x ∷ [])
    → (if test x then take (length ps - 1) ps else ps) ≡ positions test es
positions-pop test es x ps h = grind (arith, common_steps, positions-push)
