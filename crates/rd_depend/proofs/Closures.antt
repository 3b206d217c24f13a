-- The causal closure is the least set that has its step and, with each member, what depends on it;
-- and lone undos that remove the step remove all of the closure.
use Rattle.rd_depend.proofs.Prelude.{nat_tests, list_any-append, ◌≡◌, ◌≢◌, ℕ, zero, suc, ◌+◌, ◌-◌, ◌<◌, ◌≤◌, ◌==◌, ◌||◌, inl, inr, Bool, true, false, nat_lt, if◌then◌else◌, refl, sym, ◌∙◌, ap, subst, arith, List, [], ◌∷◌, ◌++◌, length, take, drop, slice_get, Option, Some, None, eq-eqb, cond-true, AreLoneUndos, IsInClosure, closure_from, number_after_undos, closure, position_from, cases_eq, depends, depends_on_any, false≢true, first_dependant, numbered, or_cases, or_left, or_right, Entry}
use Rattle.rd_depend.proofs.IndexMoves.{number-is}
use Rattle.std.proofs.lemmas.Option.{same_Some}
use Rattle.rd_step.specs.Dependence.IsInClosure.{itself, dependant}

-- The marks are closed

-- each entry that depends on x also depends on one of xs
abbrev Covers : Entry → List Entry → Type 0
Covers x xs = (z : Entry) → depends x z ≡ true → depends_on_any xs z ≡ true

or_none : (a : Bool) → (a || false) ≡ a
or_none a = grind arith

on_one-last : (xs : List Entry) (y z : Entry) → depends_on_any (xs ++ y ∷ []) z ≡ (depends_on_any xs z || depends y z)
on_one-last xs y z = list_any-append (λ x. depends x z) xs (y ∷ []) ∙ ap (λ (b : Bool). depends_on_any xs z || b) (or_none (depends y z))

still_covers : (d : Bool) (xs : List Entry) (x y : Entry) → Covers x xs → Covers x (if d then xs ++ y ∷ [] else xs)
still_covers d xs x y c z h = grind (arith, on_one-last xs y z, c z h)

-- an entry that depends on x is marked, if the block before it covers x
covered_is_marked : (xs ys : List Entry) (j : ℕ) (x y : Entry) → Covers x xs → slice_get ys j ≡ Some y → depends x y ≡ true
    → slice_get (closure_from xs ys) j ≡ Some true
covered_is_marked xs (z ∷ ys) (suc j) x y c at h = grind (arith, still_covers, covered_is_marked (if depends_on_any xs z then xs ++ z ∷ [] else xs) ys j x y (still_covers (depends_on_any xs z) xs x z c) at h)
covered_is_marked xs ys j x y c at h = grind (arith, same_Some)

-- an entry that depends on an earlier marked one is marked
dependant_is_marked : (xs ys : List Entry) (i j : ℕ) (x y : Entry) → i < j → slice_get (closure_from xs ys) i ≡ Some true → slice_get ys i ≡ Some x
    → slice_get ys j ≡ Some y → depends x y ≡ true → slice_get (closure_from xs ys) j ≡ Some true
dependant_is_marked xs (z ∷ ys) (suc i) (suc j) x y low m at_i at_j h = grind (arith, dependant_is_marked (if depends_on_any xs z then xs ++ z ∷ [] else xs) ys i j x y (omega arith) m at_i at_j h)
dependant_is_marked xs ys i j x y low m at_i at_j h = grind (arith, same_Some, covered_is_marked, on_one-last, or_right)

marks_are_closed : (es : List Entry) (k i j : ℕ) (x y : Entry) → i < j → slice_get (closure es k) i ≡ Some true → slice_get es i ≡ Some x
    → slice_get es j ≡ Some y → depends x y ≡ true → slice_get (closure es k) j ≡ Some true
marks_are_closed (e ∷ es) (suc (suc k)) (suc i) (suc j) x y low m at_i at_j h = grind (arith, marks_are_closed es (suc k) i j x y (omega arith) m at_i at_j h)
marks_are_closed (e ∷ es) (suc zero) zero (suc j) x y low m at_i at_j h = grind (arith, same_Some, covered_is_marked, or_left)
marks_are_closed (e ∷ es) (suc zero) (suc i) (suc j) x y low m at_i at_j h = grind (arith, dependant_is_marked)
marks_are_closed (e ∷ es) (suc (suc k)) zero (suc j) x y low m at_i at_j h = let no : false ≡ true = same_Some false true m in cc
marks_are_closed (e ∷ es) zero i j x y low m at_i at_j h = cc
marks_are_closed es k i j x y low m at_i at_j h = grind arith

mark_of_itself : (es : List Entry) (k : ℕ) → 1 ≤ k → k ≤ length es → numbered (closure es k) k ≡ Some true
mark_of_itself (e ∷ es) (suc (suc k)) some within = mark_of_itself es (suc k) (omega arith) (omega arith)
mark_of_itself es k some within = grind arith

pub members_are_marked : (es : List Entry) (k j : ℕ) → 1 ≤ k → k ≤ length es → IsInClosure es k j → numbered (closure es k) j ≡ Some true
members_are_marked es k _ some within itself = mark_of_itself es k some within
members_are_marked es k j some within (dependant i _ x y h low at_i at_j d) = grind (arith, marks_are_closed, members_are_marked es k i some within h)

-- Only members are marked

-- each entry after the p-th that depends on one of xs is in the closure of the k-th
abbrev AreMembers : List Entry → ℕ → ℕ → List Entry → Type 0
AreMembers es k p xs = (q : ℕ) (y : Entry) → p < q → numbered es q ≡ Some y → depends_on_any xs y ≡ true → IsInClosure es k q

-- ys are the entries of es after the p-th
abbrev StandFrom : List Entry → ℕ → List Entry → Type 0
StandFrom es p ys = (j q : ℕ) (y : Entry) → q ≡ suc (p + j) → slice_get ys j ≡ Some y → numbered es q ≡ Some y

-- the same holds one entry later, with that entry in the block if it depends on one of the block
one_more : (es : List Entry) (k p : ℕ) (xs : List Entry) (y : Entry) (d : Bool) → depends_on_any xs y ≡ d → AreMembers es k p xs → numbered es (suc p) ≡ Some y
    → AreMembers es k (suc p) (if d then xs ++ y ∷ [] else xs)
one_more es k p xs y false e ms at q z low at_q h = ms q z (omega arith) at_q h
one_more es k p xs y true e ms at q z low at_q h =
    elim (or_cases (depends_on_any xs z) (depends y z) (sym (on_one-last xs y z) ∙ h)) [
      | inl a ↦ ms q z (omega arith) at_q a
      | inr b ↦ dependant (suc p) q y z (ms (suc p) y (omega arith) at e) low at at_q b
    ]

marked_is_member : (es : List Entry) (k p : ℕ) (xs ys : List Entry) (j q : ℕ) → q ≡ suc (p + j) → AreMembers es k p xs → StandFrom es p ys
    → slice_get (closure_from xs ys) j ≡ Some true → IsInClosure es k q
marked_is_member es k p xs [] j q e ms at h = cc
marked_is_member es k p xs (y ∷ ys) zero q e ms at h =
    ms q y (omega arith) (at 0 q y (omega arith) refl) (same_Some (depends_on_any xs y) true h)
marked_is_member es k p xs (y ∷ ys) (suc j) q e ms at h =
    marked_is_member es k (suc p) (if depends_on_any xs y then xs ++ y ∷ [] else xs) ys j q (omega arith)
    (one_more es k p xs y (depends_on_any xs y) refl ms (at 0 (suc p) y (omega arith) refl)) (λ i r z f g. at (suc i) r z (omega arith) g) h

-- with one more entry in front of the list, a member of a closure has a number one greater and is a
-- member still
in_closure-cons : (e : Entry) (es : List Entry) (k j : ℕ) → IsInClosure es k j → IsInClosure (e ∷ es) (suc k) (suc j)
in_closure-cons e es k _ itself = itself
in_closure-cons e es k j (dependant i _ x y h low at_i at_j d) = dependant (suc i) (suc j) x y (in_closure-cons e es k i h) (omega arith) (grind arith) (grind arith) d

marks_are_members : (es : List Entry) (k j : ℕ) → slice_get (closure es k) j ≡ Some true → IsInClosure es k (suc j)
marks_are_members es zero j h = cc
marks_are_members [] (suc k) j h = cc
marks_are_members (e ∷ es) (suc zero) zero h = itself
marks_are_members (e ∷ es) (suc zero) (suc j) h =
    marked_is_member (e ∷ es) 1 1 (e ∷ []) es j (suc (suc j)) (omega arith)
    (λ q y low at d. dependant 1 q e y itself low refl at (sym (on_one-last [] e y) ∙ d)) (λ i q y f at. grind (arith, slice_get)) h
marks_are_members (e ∷ es) (suc (suc k)) zero h = let no : false ≡ true = same_Some false true h in cc
marks_are_members (e ∷ es) (suc (suc k)) (suc j) h = in_closure-cons e es (suc k) (suc j) (marks_are_members es (suc k) j h)

pub marked_members : (es : List Entry) (k j : ℕ) → numbered (closure es k) j ≡ Some true → IsInClosure es k j
marked_members es k j h = grind (arith, marks_are_members)

-- Lone undos

-- the number that the k-th entry has after the n-th is removed
abbrev shifted : ℕ → ℕ → ℕ
shifted n k = if nat_lt n k then k - 1 else k

-- the entries that stay are in the same order
shifted_less : (n i j : ℕ) → i ≢ n → j ≢ n → i < j → shifted n i < shifted n j
shifted_less n i j ni nj h = grind arith

-- without the element of index m, each one before it is at its index, and each one behind it is
-- at the index before
get-cut : (es : List Entry) (m i : ℕ) → slice_get (take m es ++ drop (suc m) es) i ≡ (if nat_lt i m then slice_get es i else slice_get es (suc i))
get-cut [] zero i = grind (arith, nat_tests)
get-cut [] (suc m) i = grind (arith, nat_tests)
get-cut (e ∷ es) zero i = grind (arith, nat_tests)
get-cut (e ∷ es) (suc m) zero = grind (arith, nat_tests)
get-cut (e ∷ es) (suc m) (suc i) = grind (arith, nat_tests, get-cut es m i)

-- an entry that stays has its new number
new_number : (es : List Entry) (n i : ℕ) (x : Entry) → 1 ≤ n → i ≢ n → numbered es i ≡ Some x → numbered (take (n - 1) es ++ drop n es) (shifted n i) ≡ Some x
new_number es n i x some ne at = grind (arith, nat_tests, number-is, get-cut es (n - 1) (i - 1), get-cut es (n - 1) (i - 2))

-- a scan that finds nothing passes over its first entry and finds nothing after it
none_here : (d : Bool) (n : ℕ) (o : Option ℕ) → (if d then Some n else o) ≡ None → (d ≡ false) × (o ≡ None)
none_here d n o h = grind arith

none_depends : (x : Entry) (n : ℕ) (ys : List Entry) (i : ℕ) (y : Entry) → position_from (depends x) n ys ≡ None → slice_get ys i ≡ Some y → depends x y ≡ false
none_depends x n (z ∷ ys) (suc i) y none at = none_depends x (n + 1) ys i y (none_here (depends x z) n (position_from (depends x) (n + 1) ys) none).1 at
none_depends x n ys i y h at = grind (arith, same_Some, none_here)

from_there : (es : List Entry) (m i : ℕ) → slice_get (drop m es) i ≡ slice_get es (m + i)
from_there es zero i = let same : i ≡ 0 + i = omega arith in ap (λ (k : ℕ). slice_get es k) same
from_there [] (suc m) i = refl
from_there (e ∷ es) (suc m) i = grind (arith, slice_get, from_there es m i)

free_alone : (es : List Entry) (n j : ℕ) (x y : Entry) → first_dependant es n ≡ None → numbered es n ≡ Some x → n < j → numbered es j ≡ Some y
    → depends x y ≡ false
free_alone es zero j x y none at_n low at_j = cc
free_alone es (suc m) zero x y none at_n low at_j = absurd (omega arith)
free_alone es (suc m) (suc j) x y none at_n low at_j = none_depends x (suc m + 1) (drop (suc m) es) (j - suc m) y (grind arith) (grind (arith, from_there))

-- lone undos that remove an entry also remove each later entry that depends on it
dependant_goes_out : (es : List Entry) (ns : List ℕ) (i j : ℕ) (x y : Entry) → AreLoneUndos ns es → i < j → numbered es i ≡ Some x → numbered es j ≡ Some y
    → depends x y ≡ true → number_after_undos ns i ≡ None → number_after_undos ns j ≡ None
dependant_goes_out es [] i j x y undos low at_i at_j d gone = cc
dependant_goes_out es (n ∷ ns) i j x y undos low at_i at_j d gone =
    elim (cases_eq n j) [
      | inl e ↦ cond-true (n == j) None (number_after_undos ns (shifted n j)) (eq-eqb n j e)
      | inr nj ↦
          elim (cases_eq n i) [
            | inl e ↦
                absurd (false≢true (sym (free_alone es i j x y (subst (λ (m : ℕ). first_dependant es m ≡ None) e undos.2) at_i low at_j) ∙ d))
            | inr ni ↦
                let out = dependant_goes_out (take (n - 1) es ++ drop n es) ns (shifted n i) (shifted n j) x y undos.3 (shifted_less n i j (λ e. ni (sym e)) (λ e. nj (sym e)) low)
                (new_number es n i x undos.0 (λ e. ni (sym e)) at_i) (new_number es n j y undos.0 (λ e. nj (sym e)) at_j) d in
                grind (arith, nat_tests, out)
          ]
    ]

pub closure_goes_out : (es : List Entry) (ns : List ℕ) (k j : ℕ) → AreLoneUndos ns es → number_after_undos ns k ≡ None → IsInClosure es k j → number_after_undos ns j ≡ None
closure_goes_out es ns k _ undos gone itself = gone
closure_goes_out es ns k j undos gone (dependant i _ x y h low at_i at_j d) = dependant_goes_out es ns i j x y undos low at_i at_j d (closure_goes_out es ns k i undos gone h)
