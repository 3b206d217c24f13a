-- Lists cut in two, and lists with one element moved.
use Rattle.rd_journal.proofs.Prelude.{◌≡◌, ℕ, suc, ◌+◌, ◌-◌, ◌<◌, ◌≤◌, List, [], ◌∷◌, take_more, ◌++◌, length, get_or, take, drop, sym, ◌∙◌, ap, arith, put_mid, mid_of, drop-cons, append_assoc, take-append-drop, length-take-le, take-take, drop-take, drop-append-le, drop-drop, moved_to}

-- the element at an index below the length
pub nth : {X : Type 0} (l : List X) (k : ℕ) → k < length l → (x : X) × (x ≡ get_or l k x)
nth (x ∷ l) (suc k) h = grind (arith, nth l k (omega arith))
nth l k h = grind arith

-- what is after a cut is the next element and what is after that
pub drop_one_less : {X : Type 0} (l : List X) (k : ℕ) (x : X) → k < length l → x ≡ get_or l k x → drop k l ≡ x ∷ drop (k + 1) l
drop_one_less {X} l k x h e = grind (arith, drop-cons)

-- The list around its k-th element

-- x is the k-th element of the list, counted from 1
pub record IsNumber {X : Type 0} (l : List X) (k : ℕ) (x : X) : Type 0 where
  pub some : 1 ≤ k
  pub within : k ≤ length l
  pub here : x ≡ get_or l (k - 1) x

pub up_to_it : {X : Type 0} (l : List X) (k : ℕ) (x : X) → IsNumber l k x → take k l ≡ take (k - 1) l ++ x ∷ []
up_to_it {X} l k x at = grind (arith, take_more)

pub from_it : {X : Type 0} (l : List X) (k : ℕ) (x : X) → IsNumber l k x → drop (k - 1) l ≡ x ∷ drop k l
from_it {X} l k x at = grind (arith, drop_one_less)

pub around_it : {X : Type 0} (l : List X) (k : ℕ) (x : X) → IsNumber l k x → l ≡ take (k - 1) l ++ x ∷ drop k l
around_it {X} l k x at = sym (take-append-drop (k - 1) l) ∙ ap (λ (ys : List X). take (k - 1) l ++ ys) (from_it l k x at)

-- what is after a cut before the m-th element, by the first m elements and the others
pub drop_before : {X : Type 0} (l : List X) (k m n : ℕ) → m ≤ length l → k + n ≡ m
    → drop k l ≡ drop (length (take m l) - n) (take m l) ++ drop m l
drop_before {X} l k m n h e =
    let len : k ≡ length (take m l) - n = omega (arith, length-take-le m l h) in
    let within : k ≤ length (take m l) = omega (arith, length-take-le m l h) in
    sym (ap (drop k) (take-append-drop m l)) ∙ drop-append-le k (take m l) (drop m l) within
    ∙ ap (λ (j : ℕ). drop j (take m l) ++ drop m l) len

-- The k-th of the first l elements moved after the others of them

-- to turn the elements from the k-th to the l-th by one is to move the k-th behind them
pub rotated-moved_to : {X : Type 0} (es : List X) (k l : ℕ) → 1 ≤ k → k ≤ l
    → put_mid (k - 1) (l - (k - 1)) es (drop 1 (mid_of (k - 1) (l - (k - 1)) es) ++ take 1 (mid_of (k - 1) (l - (k - 1)) es)) ≡ moved_to es k l
rotated-moved_to {X} es k l some below =
    let i = k - 1 in
    let m = l - i in
    let mid : take m (drop i es) ≡ drop i (take l es) = sym (drop-take i m es) ∙ (let all : i + m ≡ l = omega arith in ap (λ (n : ℕ). drop i (take n es)) all) in
    grind (arith, drop-drop 1 i (take l es), drop-drop m i es, append_assoc, take-take)
