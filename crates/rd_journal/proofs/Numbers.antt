-- Entries by their numbers in a slab: parts of the list, one entry more, one written over; and
-- orders as their numbers move.
use Rattle.rd_journal.proofs.Prelude.{◌≡◌, ℕ, zero, suc, ◌+◌, ◌-◌, ◌<◌, ◌≤◌, ◌==◌, Bool, cond, if◌then◌else◌, List, [], ◌∷◌, ◌++◌, length, get_or, map, take, drop, set, refl, sym, ◌∙◌, ap, subst, arith, length-append, All, count_by, flat_map-append, drop_more, take-append-drop, drop-append-le, length-set, get_or-set_same, drop-drop, get_or_default, sum_by-append, sum_by-cons, sum_by_push, sum_by-take-drop, get_or-le-sum_by, moved_to, at_numbers, IsOrder, get_or-map, nat_tests, All-take, All-drop, length-drop, length-take}
use Rattle.rd_journal.proofs.ListLemmas.{nth}

-- all numbers are below this one
abbrev pub AreBelow : ℕ → List ℕ → Type 0
AreBelow n ns = All (λ m. m < n) ns

-- the list of one entry of the slab
pub take_one-drop : {X : Type 0} (es : List X) (n : ℕ) (x : X) → n < length es → x ≡ get_or es n x → take 1 (drop n es) ≡ x ∷ []
take_one-drop {X} es n x h e = ap (λ (ys : List X). take 1 ys) (drop_more es n x h) ∙ (λ i. sym e i ∷ [])

-- parts

pub at-append : {X : Type 0} (es : List X) (ms ns : List ℕ) → at_numbers es (ms ++ ns) ≡ at_numbers es ms ++ at_numbers es ns
at-append es ms ns = flat_map-append (λ n. take 1 (drop n es)) ms ns

-- the entries are what is read in the slab by the numbers
at-map : {X : Type 0} (es : List X) (ns : List ℕ) (d : X) → AreBelow (length es) ns → at_numbers es ns ≡ map (λ n. get_or es n d) ns
at-map es [] d h = refl
at-map {X} es (n ∷ ns) d h =
    (λ i. take 1 (drop_more es n d (h zero n (omega arith)) i) ++ at-map es ns d (λ j e below. h (suc j) e (omega arith)) i)

pub at-length : {X : Type 0} (es : List X) (ns : List ℕ) → AreBelow (length es) ns → length (at_numbers es ns) ≡ length ns
at-length es [] h = refl
at-length es (n ∷ ns) h = grind (arith, length-take, length-drop, length-append, h zero n (omega arith), at-length es ns (λ j e below. h (suc j) e (omega arith)))

pub at-take : {X : Type 0} (es : List X) (k : ℕ) (ns : List ℕ) → AreBelow (length es) ns → take k (at_numbers es ns) ≡ at_numbers es (take k ns)
at-take es zero ns h = refl
at-take es (suc k) [] h = refl
at-take es (suc k) (n ∷ ns) h = grind (arith, drop_more es n (nth es n (h zero n (omega arith))).0 (h zero n (omega arith)), at-take es k ns (λ j e below. h (suc j) e (omega arith)))

pub at-drop : {X : Type 0} (es : List X) (k : ℕ) (ns : List ℕ) → AreBelow (length es) ns → drop k (at_numbers es ns) ≡ at_numbers es (drop k ns)
at-drop es zero ns h = refl
at-drop es (suc k) [] h = refl
at-drop es (suc k) (n ∷ ns) h = grind (arith, drop_more es n (nth es n (h zero n (omega arith))).0 (h zero n (omega arith)), at-drop es k ns (λ j e below. h (suc j) e (omega arith)))

pub at-get : {X : Type 0} (es : List X) (ns : List ℕ) (k : ℕ) (d : X) (e : ℕ) → AreBelow (length es) ns → k < length ns
    → get_or (at_numbers es ns) k d ≡ get_or es (get_or ns k e) d
at-get {X} es ns k d e h below = ap (λ (ys : List X). get_or ys k d) (at-map es ns d h) ∙ get_or-map (λ n. get_or es n d) ns k e d below

-- one entry written over, and one more

take_one-set_other : {X : Type 0} (es : List X) (n v : ℕ) (x : X) → (n ≡ v → ⊥) → take 1 (drop n (set es v x)) ≡ take 1 (drop n es)
take_one-set_other (y ∷ es) (suc n) (suc v) x h = take_one-set_other es n v x (λ e. h (ap (λ (m : ℕ). suc m) e))
take_one-set_other es n v x h = grind arith

-- a number counts itself at least once
count-same : (v : ℕ) → 1 ≤ cond (v == v) 1 0
count-same v = grind (arith, nat_tests)

pub at-set : {X : Type 0} (es : List X) (v : ℕ) (x : X) (ns : List ℕ) → count_by (λ m. m == v) ns ≡ 0 → at_numbers (set es v x) ns ≡ at_numbers es ns
at-set es v x [] h = refl
at-set es v x (n ∷ ns) h = grind (arith, nat_tests, sum_by-cons (λ m. cond (m == v) 1 0) n ns, take_one-set_other, at-set es v x ns)

pub at-push : {X : Type 0} (es : List X) (x : X) (ns : List ℕ) → AreBelow (length es) ns → at_numbers (es ++ x ∷ []) ns ≡ at_numbers es ns
at-push es x [] h = refl
at-push es x (n ∷ ns) h =
    let here : n < length es = h zero n (omega arith) in
    grind (arith, drop-append-le, drop_more es n (nth es n here).0 here, at-push es x ns (λ j d below. h (suc j) d (omega arith)))

-- orders

pub order_below : (count : ℕ) (ns : List ℕ) → IsOrder count ns → AreBelow count ns
order_below count ns o = λ k d within. grind (arith, get_or-le-sum_by (λ m. cond (m == get_or ns k d) 1 0) ns k d within, count-same, o.once (get_or ns k d))

pub order_push : (count : ℕ) (ns : List ℕ) → IsOrder count ns → IsOrder (count + 1) (ns ++ count ∷ [])
order_push count ns o = record {
  once = λ n. grind (arith, nat_tests, sum_by_push (λ m. cond (m == n) 1 0) ns count, o.once n);
  all = omega (arith, length-append ns (count ∷ []), o.all);
}

-- what is put at a place of an order

pub put_over : {X : Type 0} (es : List X) (ns : List ℕ) (place v : ℕ) (x : X) → IsOrder (length es) ns → place < length ns → v ≡ get_or ns place v
    → at_numbers (set es v x) ns ≡ take place (at_numbers es ns) ++ x ∷ drop (place + 1) (at_numbers es ns)
put_over {X} es ns place v x o within here =
    let below = order_below (length es) ns o in
    let there : v < length es = subst (λ (m : ℕ). m < length es) (sym here) (below place v within) in
    let before = take place ns in
    let after = drop (place + 1) ns in
    let around : ns ≡ before ++ v ∷ after = sym (take-append-drop place ns) ∙ ap (λ (ys : List ℕ). before ++ ys) (drop_more ns place v within ∙ (λ i. sym here i ∷ after)) in
    let test : ℕ → ℕ = λ m. cond (m == v) 1 0 in
    let all : count_by (λ m. m == v) ns ≡ 1 = o.once v ∙ grind (arith, nat_tests) in
    let split : count_by (λ m. m == v) ns ≡ count_by (λ m. m == v) before + count_by (λ m. m == v) (v ∷ after) = ap (count_by (λ m. m == v)) around ∙ sum_by-append test before (v ∷ after) in
    let its : count_by (λ m. m == v) (v ∷ after) ≡ cond (v == v) 1 0 + count_by (λ m. m == v) after = sum_by-cons test v after in
    let none_before : count_by (λ m. m == v) before ≡ 0 = omega (arith, all, split, its, count-same v) in
    let none_after : count_by (λ m. m == v) after ≡ 0 = omega (arith, all, split, its, count-same v) in
    let written : take 1 (drop v (set es v x)) ≡ x ∷ [] = take_one-drop (set es v x) v x (omega (arith, length-set es v x)) (sym (get_or-set_same es v x x there)) in
    ap (at_numbers (set es v x)) around
    ∙ at-append (set es v x) before (v ∷ after)
    ∙ (λ i. at-set es v x before none_before i ++ (written i ++ at-set es v x after none_after i))
    ∙ (λ i. sym (at-take es place ns below) i ++ x ∷ sym (at-drop es (place + 1) ns below) i)

-- moves

pub count-moved_to : (test : ℕ → Bool) (ns : List ℕ) (k l : ℕ) → 1 ≤ k → count_by test (moved_to ns k l) ≡ count_by test ns
count-moved_to test ns k l some =
    let f : ℕ → ℕ = λ m. cond (test m) 1 0 in
    let L = take l ns in
    let rest = drop (k - 1) L in
    let next : (k - 1) + 1 ≡ k = omega arith in
    let later : drop 1 rest ≡ drop k L = drop-drop 1 (k - 1) L ∙ ap (λ (m : ℕ). drop m L) next in
    omega (arith, sum_by-append f, sum_by-take-drop f ns l, sum_by-take-drop f L (k - 1), sum_by-take-drop f rest 1, ap (count_by test) later)

pub at-moved_to : {X : Type 0} (es : List X) (ns : List ℕ) (k l : ℕ) → AreBelow (length es) ns
    → at_numbers es (moved_to ns k l) ≡ moved_to (at_numbers es ns) k l
at-moved_to {X} es ns k l below =
    let L = take l ns in
    let first : AreBelow (length es) L = All-take (λ (m : ℕ). m < length es) l ns below in
    let turned : AreBelow (length es) (drop (k - 1) L) = All-drop (λ (m : ℕ). m < length es) (k - 1) L first in
    rw (at-take es l ns below, at-take es (k - 1) L first, at-drop es k L first, at-drop es (k - 1) L first, at-take es 1 (drop (k - 1) L) turned, at-drop es l ns below)
    (simp at-append)

-- what is read by the number at a position is the entry at this position
pub at_entry : {X : Type 0} (es : List X) (ns : List ℕ) (k : ℕ) (d : X) → AreBelow (length es) ns → k < length ns
    → let x = get_or es (get_or ns k 0) d in x ≡ get_or (at_numbers es ns) k x
at_entry {X} es ns k d below within =
    let v = get_or ns k 0 in
    let x = get_or es v d in
    sym (at-get es ns k x 0 below within ∙ get_or_default es v x d (below k 0 within))

-- the lemmas with which the entries by number are read as a list
pub ruleset parts = (at-length, at-take, at-drop, at_entry)
