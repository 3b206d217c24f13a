-- A list taken apart at a position, and at the last position that passes a test.
use Rattle.rd_depend.proofs.Elements.{around-element}
use Rattle.rd_origin.specs.Positions.{HasNone}
use Rattle.rd_origin.proofs.Prelude.{numbered, sym, ◌<◌, ◌≡◌, ℕ, zero, suc, ◌-◌, Bool, true, false, refl, ap, ◌∙◌, List, [], ◌∷◌, ◌++◌, length, take, drop, slice_get, Option, Some, None, arith, last_position, one_further, IsGreatest}

-- the element after the first part of a list has the number after that part's length
pub at_seam : {X : Type 0} (xs ys : List X) (x : X) → numbered (xs ++ x ∷ ys) (suc (length xs)) ≡ Some x
at_seam {X} [] ys x = refl
at_seam {X} (y ∷ xs) ys x = at_seam xs ys x

-- a list can be taken apart at every element
pub cut_at_number : {X : Type 0} (xs : List X) (k : ℕ) (x : X) → numbered xs k ≡ Some x → xs ≡ take (k - 1) xs ++ x ∷ drop k xs
cut_at_number {X} xs k x h = let whole = around-element xs (k - 1) x in grind (arith, whole)

-- a list taken apart at its last element that passes the test
pub record ApartAtLast {X : Type 0} (test : X → Bool) (xs : List X) (j : ℕ) : Type 0 where
  pub before : List X
  pub element : X
  pub behind : List X
  pub whole : xs ≡ before ++ element ∷ behind
  pub number : suc (length before) ≡ j
  pub passes : test element ≡ true
  pub none : HasNone test behind

some_behind : (b : Bool) (n : Option ℕ) → one_further b n ≡ None → (b ≡ false) × (n ≡ None)
some_behind b n h = grind arith

-- if there is no last position, no element passes
pub none_passes : {X : Type 0} (test : X → Bool) (xs : List X) → last_position test xs ≡ None → HasNone test xs
none_passes {X} test [] h = tt
none_passes {X} test (x ∷ xs) h =
    let both = some_behind (test x) (last_position test xs) h in
    (both.0, none_passes test xs both.1)

-- if no later element passes, a list that has a last position is taken apart at its first element;
-- b says whether that one passes
apart_first : {X : Type 0} (test : X → Bool) (x : X) (xs : List X) (j : ℕ) (b : Bool) → test x ≡ b → last_position test xs ≡ None
    → one_further b None ≡ Some j → ApartAtLast test (x ∷ xs) j
apart_first {X} test x xs j false is none h = cc
apart_first {X} test x xs j true is none h =
    record { before = []; element = x; behind = xs; whole = refl; number = cc; passes = is; none = none_passes test xs none }

apart_later : {X : Type 0} (test : X → Bool) (x : X) (xs : List X) (n j : ℕ) → suc n ≡ j → ApartAtLast test xs n → ApartAtLast test (x ∷ xs) j
apart_later {X} test x xs n j e a = record {
  before = x ∷ a.before;
  element = a.element;
  behind = a.behind;
  whole = ap (λ (ys : List X). x ∷ ys) a.whole;
  number = ap suc a.number ∙ e;
  passes = a.passes;
  none = a.none;
}

apart_on : {X : Type 0} (test : X → Bool) (x : X) (xs : List X) (j : ℕ) (o : Option ℕ) → last_position test xs ≡ o
    → ((n : ℕ) → last_position test xs ≡ Some n → ApartAtLast test xs n) → one_further (test x) o ≡ Some j → ApartAtLast test (x ∷ xs) j
apart_on {X} test x xs j None is rest h = apart_first test x xs j (test x) refl is h
apart_on {X} test x xs j (Some n) is rest h = let e : suc n ≡ j = cc in apart_later test x xs n j e (rest n is)

-- a list can be taken apart at its last position
pub apart_at_last : {X : Type 0} (test : X → Bool) (xs : List X) (j : ℕ) → last_position test xs ≡ Some j → ApartAtLast test xs j
apart_at_last {X} test [] j h = cc
apart_at_last {X} test (x ∷ xs) j h = apart_on test x xs j (last_position test xs) refl (λ n k. apart_at_last test xs n k) h

-- What the last position is

none_at : {X : Type 0} (test : X → Bool) (xs : List X) (i : ℕ) (y : X) → HasNone test xs → slice_get xs i ≡ Some y → test y ≡ false
none_at {X} test [] i y h k = cc
none_at {X} test (x ∷ xs) zero y h k = let same : x ≡ y = cc in ap test (sym same) ∙ h.0
none_at {X} test (x ∷ xs) (suc i) y h k = none_at test xs i y h.1 k

none_behind : {X : Type 0} (test : X → Bool) (before behind : List X) (x y : X) (i : ℕ) → HasNone test behind → length before < i
    → slice_get (before ++ x ∷ behind) i ≡ Some y → test y ≡ false
none_behind {X} test [] behind x y zero h below k = absurd (omega (arith, below))
none_behind {X} test [] behind x y (suc i) h below k = none_at test behind i y h k
none_behind {X} test (b ∷ bs) behind x y zero h below k = absurd (omega (arith, below))
none_behind {X} test (b ∷ bs) behind x y (suc i) h below k = none_behind test bs behind x y i h (omega (arith, below)) k

none_numbered : {X : Type 0} (test : X → Bool) (before behind : List X) (x y : X) (i : ℕ) → HasNone test behind → suc (length before) < i
    → numbered (before ++ x ∷ behind) i ≡ Some y → test y ≡ false
none_numbered {X} test before behind x y i h below k = grind (arith, none_behind)

-- the last position is the greatest
pub is_greatest : {X : Type 0} (test : X → Bool) (xs : List X) (j : ℕ) → last_position test xs ≡ Some j → IsGreatest test xs j
is_greatest {X} test xs j h = let a = apart_at_last test xs j h in grind (arith, at_seam, none_numbered)
