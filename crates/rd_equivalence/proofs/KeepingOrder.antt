-- The steps of one list keep the order of another list exactly if they may be taken out of that
-- list one after another.
use Rattle.rd_equivalence.proofs.Prelude.{AllByRecursion, eqb-false, map-append, Entry, Key, Reached, is_under, last_blocking, raised, with_step, nothing_reached, AreAlike, Numbered, by_actor, steps_by_actor, with_rest, KeepsOrder, ◌≡◌, ◌≢◌, ℕ, ◌+◌, ◌<◌, ◌≤◌, Bool, true, false, ◌==◌, if◌then◌else◌, List, [], ◌∷◌, ◌++◌, length, map, refl, sym, ap, subst, ◌∙◌, arith, eqb-true, length-append, enumerate_from, filter-append}
use Rattle.rd_depend.proofs.Elements.{all-append, all-parts, all-weaker, map-nil}
use Rattle.rd_equivalence.proofs.FirstOfActor.{HasNoneBy}
use Rattle.rd_equivalence.proofs.TouchedKeys.{wrote_under, wrote_touched, passed_at, in_order_at, in_order_from}
use Rattle.rd_equivalence.proofs.TakingOut.{touched-alike, wrote-alike, alike-sym, AreApart, IsApartFrom, TakesAll, takes_out}

-- How far steps reached, and their order, key by key

-- a step with number i in the second run comes there after all earlier steps on which it depends,
-- under each key that it touched
abbrev IsAfterAll : (Key → Reached) → Entry → ℕ → Type 0
IsAfterAll s x i = (k : Key) → is_under k x.place ≡ true → last_blocking (s k) (wrote_under k x.place x.wrote) < i

-- t is how far the steps reached after x, which has the number i in the second run
abbrev Passes : (Key → Reached) → Entry → ℕ → (Key → Reached) → Type 0
Passes s x i t = (k : Key) → t k ≡ (if is_under k x.place then raised (s k) (wrote_under k x.place x.wrote) i else s k)

passes-alike : (s t : Key → Reached) (x y : Entry) (i : ℕ) → AreAlike x y → Passes s x i t → Passes s y i t
passes-alike s t x y i h m k = m k ∙ (λ j. if touched-alike x y h k j then raised (s k) (wrote-alike x y h k j) i else s k)

after-alike : (s : Key → Reached) (x y : Entry) (i : ℕ) → AreAlike x y → IsAfterAll s x i → IsAfterAll s y i
after-alike s x y i h after k touched = grind arith

after-before : (s t : Key → Reached) (x y : Entry) (i j : ℕ) → Passes s x i t → IsAfterAll t y j → IsAfterAll s y j
after-before s t x y i j m h k touched = grind arith

after-later : (s t : Key → Reached) (x y : Entry) (i j : ℕ) → Passes s x i t → IsAfterAll s y j → i < j → IsAfterAll t y j
after-later s t x y i j m h later k touched = grind arith

-- a step apart from x is held up by nothing that x did: under a key that both touched, neither wrote
after-apart : (s t : Key → Reached) (x y : Entry) (i j : ℕ) → Passes s x i t → IsAfterAll s y j → AreApart x y → IsAfterAll t y j
after-apart s t x y i j m h apart k touched = grind arith

apart_before : (s t : Key → Reached) (x y : Entry) (i j : ℕ) → Passes s x i t → IsAfterAll t y j → j < i → x.event.actor ≢ y.event.actor → AreApart x y
apart_before s t x y i j m h before actors = grind (arith, wrote_touched)

-- Lists of steps with their places

abbrev entries_of : List Numbered → List Entry
entries_of ps = map (λ (p : Numbered). p.1) ps

-- each step has a greater number than the one before it
abbrev Ascends : List Numbered → Type 0
Ascends [] = Unit {0}
Ascends (p ∷ ps) = AllByRecursion (λ (q : Numbered). p.0 < q.0) ps × Ascends ps

-- the steps before p and those after it in an ascending list
record Around (ps : List Numbered) (p : Numbered) (qs : List Numbered) : Type 0 where
  before : AllByRecursion (λ (q : Numbered). q.0 < p.0) ps
  later : AllByRecursion (λ (q : Numbered). p.0 < q.0) qs
  rest : Ascends (ps ++ qs)

around : (ps : List Numbered) (p : Numbered) (qs : List Numbered) → Ascends (ps ++ p ∷ qs) → Around ps p qs
around [] p qs h = record { before = tt; later = h.0; rest = h.1 }
around (r ∷ ps) p qs h =
    let a = around ps p qs h.1 in
    let its = all-parts (λ (q : Numbered). r.0 < q.0) ps (p ∷ qs) h.0 in
    record { before = (its.1.0, a.before); later = a.later; rest = (all-append (λ (q : Numbered). r.0 < q.0) ps qs its.0 its.1.1, a.rest) }

numbers-from : (P : ℕ → Type 0) (i : ℕ) (xs : List Entry) → ((j : ℕ) → i ≤ j → P j) → AllByRecursion (λ (q : Numbered). P q.0) (enumerate_from i xs)
numbers-from P i [] h = tt
numbers-from P i (x ∷ xs) h = (h i (omega arith), numbers-from P (i + 1) xs (λ j l. h j (omega arith)))

numbers-ascend : (i : ℕ) (xs : List Entry) → Ascends (enumerate_from i xs)
numbers-ascend i [] = tt
numbers-ascend i (x ∷ xs) = (numbers-from (λ j. i < j) (i + 1) xs (λ j l. omega arith), numbers-ascend (i + 1) xs)

entries-numbered : (i : ℕ) (xs : List Entry) → entries_of (enumerate_from i xs) ≡ xs
entries-numbered i [] = refl
entries-numbered i (x ∷ xs) = ap (λ (l : List Entry). x ∷ l) (entries-numbered (i + 1) xs)

-- The steps of one actor

by_actor-own : (n : ℕ) (p : Numbered) (ps : List Numbered) → n ≡ p.1.event.actor → by_actor n (p ∷ ps) ≡ p ∷ by_actor n ps
by_actor-own n p ps h = grind arith

by_actor-other : (n : ℕ) (p : Numbered) (ps : List Numbered) → n ≢ p.1.event.actor → by_actor n (p ∷ ps) ≡ by_actor n ps
by_actor-other n p ps h = grind arith

-- the first step of an actor in a list, with the steps before it and those after it
record FirstBy (n : ℕ) (ps : List Numbered) (p : Numbered) (rest : List Numbered) : Type 0 where
  earlier : List Numbered
  later : List Numbered
  stands : ps ≡ earlier ++ p ∷ later
  actor : n ≡ p.1.event.actor
  none : HasNoneBy n (entries_of earlier)
  left : rest ≡ by_actor n (earlier ++ later)

first_by : (n : ℕ) (ps : List Numbered) (p : Numbered) (rest : List Numbered) → by_actor n ps ≡ p ∷ rest → FirstBy n ps p rest
first_by n [] p rest h = cc
first_by n (q ∷ ps) p rest h = by (n == q.1.event.actor) refl h (first_by n ps p rest)
  where
    by : (b : Bool) → (n == q.1.event.actor) ≡ b → (if b then q ∷ by_actor n ps else by_actor n ps) ≡ p ∷ rest
        → (by_actor n ps ≡ p ∷ rest → FirstBy n ps p rest) → FirstBy n (q ∷ ps) p rest
    by true e g later =
        let same : q ≡ p = cc in
        let by_actor-own = eqb-true n q.1.event.actor e in
        record { earlier = []; later = ps; stands = cc; actor = cc; none = tt; left = cc }
    by false e g later =
        let f = later g in
        let other_actor = eqb-false n q.1.event.actor e in
        record { earlier = q ∷ f.earlier; later = f.later; stands = cc; actor = f.actor; none = (other_actor, f.none); left = f.left ∙ sym (by_actor-other n q (f.earlier ++ f.later) other_actor) }

-- without the first step of its actor, that actor has the steps after it, and other actors have the
-- same steps
by_actor-first : (n : ℕ) (ps qs : List Numbered) (p : Numbered) → n ≡ p.1.event.actor → HasNoneBy n (entries_of ps) → by_actor n (ps ++ p ∷ qs) ≡ p ∷ by_actor n (ps ++ qs)
by_actor-first n [] qs p e none = by_actor-own n p qs e
by_actor-first n (r ∷ ps) qs p e none = grind (arith, by_actor-first n ps qs p e none.1)

taken_out : (n : ℕ) (ps qs : List Numbered) (p : Numbered) → n ≡ p.1.event.actor → (m : ℕ)
    → with_rest (λ k. by_actor k (ps ++ p ∷ qs)) n (by_actor n (ps ++ qs)) m ≡ by_actor m (ps ++ qs)
taken_out n ps qs p e m = grind (arith, filter-append, by_actor-other)

nobody_left : (ps : List Numbered) → ((n : ℕ) → by_actor n ps ≡ []) → ps ≡ []
nobody_left [] h = refl
nobody_left (p ∷ ps) h = let e = h p.1.event.actor in grind arith

-- Where they keep the order they may be taken out

-- each step comes after all earlier steps on which it depends
abbrev AreAfterAll : (Key → Reached) → List Numbered → Type 0
AreAfterAll s ps = AllByRecursion (λ (p : Numbered). IsAfterAll s p.1 p.0) ps

all_apart : (s t : Key → Reached) (p : Numbered) (ps : List Numbered) → Passes s p.1 p.0 t → AreAfterAll t ps → AllByRecursion (λ (q : Numbered). q.0 < p.0) ps
    → HasNoneBy p.1.event.actor (entries_of ps) → IsApartFrom p.1 (entries_of ps)
all_apart s t p [] m h before none = tt
all_apart s t p (q ∷ ps) m h before none = (apart_before s t p.1 q.1 p.0 q.0 m h.0 before.0 none.0, all_apart s t p ps m h.1 before.1 none.1)

-- what follows for the other list if the order is kept: its steps may be taken out, and each is in
-- order
record Kept (s : Key → Reached) (xs : List Entry) (ps : List Numbered) : Type 0 where
  taken : TakesAll xs (entries_of ps)
  order : AreAfterAll s ps

-- if the order is kept with t, after x, and without p, which is like x, the first step left of its
-- actor, and after all earlier steps on which it depends, then it is kept with x and p
kept_more : (s t : Key → Reached) (x : Entry) (xs : List Entry) (ps qs : List Numbered) (p : Numbered) → Passes s x p.0 t → Ascends (ps ++ p ∷ qs) → AreAlike x p.1
    → IsAfterAll s x p.0 → HasNoneBy p.1.event.actor (entries_of ps) → Kept t xs (ps ++ qs) → Kept s (x ∷ xs) (ps ++ p ∷ qs)
kept_more s t x xs ps qs p m ascends alike order none h =
    let its = passes-alike s t x p.1 p.0 alike m in
    let before = all-parts _ ps qs (all-weaker _ (λ (q : Numbered). IsAfterAll s q.1 q.0) (ps ++ qs) (λ q g. after-before s t p.1 q.1 p.0 q.0 its g) h.order) in
    let apart = all_apart s t p ps its (all-parts _ ps qs h.order).0 (around ps p qs ascends).before none in
    let entry = λ (q : Numbered). q.1 in
    record {
      taken = (
        entries_of (ps ++ qs),
        takes_out (entries_of ps) p.1 (entries_of qs) (map-append entry ps (p ∷ qs)) alike apart (map-append entry ps qs),
        h.taken,
      );
      order = all-append _ ps (p ∷ qs) before.0 (after-alike s x p.1 p.0 alike order, before.1);
    }

kept : (s : Key → Reached) (xs : List Entry) (ps : List Numbered) → Ascends ps → KeepsOrder s xs (λ n. by_actor n ps) → Kept s xs ps
kept s [] ps ascends h = subst (λ (l : List Numbered). Kept s [] l) (sym (nobody_left ps h)) (record { taken = refl; order = tt })
kept s (x ∷ xs) ps ascends h =
    let p = h.0 in
    let n = x.event.actor in
    let f = first_by n ps p h.1 h.2.first in
    let asc = subst Ascends f.stands ascends in
    let left : (m : ℕ) → with_rest (λ k. by_actor k ps) n h.1 m ≡ by_actor m (f.earlier ++ f.later) =
    λ m. (λ i. with_rest (λ k. by_actor k (f.stands i)) n (f.left i) m) ∙ taken_out n f.earlier f.later p f.actor m in
    subst (λ (l : List Numbered). Kept s (x ∷ xs) l) (sym f.stands)
    (kept_more s (with_step s x p.0) x xs f.earlier f.later p (passed_at s x p.0) asc h.2.alike (in_order_at s x p.0 h.2.order)
    (subst (λ (k : ℕ). HasNoneBy k (entries_of f.earlier)) f.actor f.none)
    (kept (with_step s x p.0) xs (f.earlier ++ f.later) (around f.earlier p f.later asc).rest
    (subst (λ (l : ℕ → List Numbered). KeepsOrder (with_step s x p.0) xs l) (λ i m. left m i) h.3)))

pub kept_taken : (xs ys : List Entry) → KeepsOrder nothing_reached xs (steps_by_actor ys) → TakesAll xs ys
kept_taken xs ys h =
    subst (λ (l : List Entry). TakesAll xs l) (entries-numbered 1 ys) (kept nothing_reached xs (enumerate_from 1 ys) (numbers-ascend 1 ys) h).taken

-- and where they may be taken out they keep the order

-- a step of a list, found by its entry among the list's entries
record Found (ps : List Numbered) (xs : List Entry) (y : Entry) (ys : List Entry) : Type 0 where
  earlier : List Numbered
  step : Numbered
  later : List Numbered
  stands : ps ≡ earlier ++ step ∷ later
  before : entries_of earlier ≡ xs
  itself : step.1 ≡ y
  after : entries_of later ≡ ys

found_step : (ps : List Numbered) (xs : List Entry) (y : Entry) (ys : List Entry) → entries_of ps ≡ xs ++ y ∷ ys → Found ps xs y ys
found_step [] xs y ys h = absurd (omega (arith, ap length h, length-append xs (y ∷ ys)))
found_step (p ∷ ps) [] y ys h = record { earlier = []; step = p; later = ps; stands = refl; before = refl; itself = cc; after = cc }
found_step (p ∷ ps) (x ∷ xs) y ys h =
    let f = found_step ps xs y ys (let e : entries_of ps ≡ xs ++ y ∷ ys = cc in e) in
    record { earlier = p ∷ f.earlier; step = f.step; later = f.later; stands = cc; before = cc; itself = f.itself; after = f.after }

none_by : (y : Entry) (xs : List Entry) → IsApartFrom y xs → HasNoneBy y.event.actor xs
none_by y xs h = all-weaker (AreApart y) (λ (x : Entry). y.event.actor ≢ x.event.actor) xs (λ x apart. apart.actors) h

still_after : (s t : Key → Reached) (y : Entry) (i : ℕ) (ps : List Numbered) → Passes s y i t → AreAfterAll s ps → IsApartFrom y (entries_of ps) → AreAfterAll t ps
still_after s t y i [] m h apart = tt
still_after s t y i (p ∷ ps) m h apart = (after-apart s t y p.1 i p.0 m h.0 apart.0, still_after s t y i ps m h.1 apart.1)

later_after : (s t : Key → Reached) (y : Entry) (i : ℕ) (ps : List Numbered) → Passes s y i t → AreAfterAll s ps → AllByRecursion (λ (q : Numbered). i < q.0) ps → AreAfterAll t ps
later_after s t y i [] m h later = tt
later_after s t y i (p ∷ ps) m h later = (after-later s t y p.1 i p.0 m h.0 later.0, later_after s t y i ps m h.1 later.1)

taken_more : (s t : Key → Reached) (x : Entry) (xs : List Entry) (ps qs : List Numbered) (p : Numbered) → Passes s x p.0 t → t ≡ with_step s x p.0
    → AreAfterAll s (ps ++ p ∷ qs) → Ascends (ps ++ p ∷ qs) → AreAlike x p.1 → IsApartFrom p.1 (entries_of ps)
    → (AreAfterAll t (ps ++ qs) → KeepsOrder t xs (λ n. by_actor n (ps ++ qs))) → KeepsOrder s (x ∷ xs) (λ n. by_actor n (ps ++ p ∷ qs))
taken_more s t x xs ps qs p m is order ascends alike apart on =
    let n = x.event.actor in
    let e : n ≡ p.1.event.actor = ap (λ e. e.actor) alike.event in
    let its = passes-alike s t x p.1 p.0 alike m in
    let parts = all-parts _ ps (p ∷ qs) order in
    let rest = all-append _ ps qs (still_after s t p.1 p.0 ps its parts.0 apart) (later_after s t p.1 p.0 qs its parts.1.1 (around ps p qs ascends).later) in (
      p,
      by_actor n (ps ++ qs),
      record {
        first = by_actor-first n ps qs p e (subst (λ (k : ℕ). HasNoneBy k (entries_of ps)) (sym e) (none_by p.1 (entries_of ps) apart));
        alike = alike;
        order = in_order_from s x p.0 (after-alike s p.1 x p.0 (alike-sym x p.1 alike) parts.1.0);
      },
      subst (λ (u : Key → Reached). KeepsOrder u xs (with_rest (λ k. by_actor k (ps ++ p ∷ qs)) n (by_actor n (ps ++ qs)))) is
          (subst (λ (l : ℕ → List Numbered). KeepsOrder t xs l) (λ i m. sym (taken_out n ps qs p e m) i) (on rest)),
    )

taken : (s : Key → Reached) (xs : List Entry) (ps : List Numbered) → Ascends ps → AreAfterAll s ps → TakesAll xs (entries_of ps) → KeepsOrder s xs (λ n. by_actor n ps)
taken s [] ps ascends order h = λ n. ap (by_actor n) (map-nil (λ (p : Numbered). p.1) ps h)
taken s (x ∷ xs) ps ascends order h =
    let t = h.1 in
    let f = found_step ps t.earlier t.entry t.later t.stands in
    let asc = subst Ascends f.stands ascends in
    let left : h.0 ≡ entries_of (f.earlier ++ f.later) =
    t.leaves ∙ (λ i. sym f.before i ++ sym f.after i) ∙ sym (map-append (λ (q : Numbered). q.1) f.earlier f.later) in
    subst (λ (l : List Numbered). KeepsOrder s (x ∷ xs) (λ n. by_actor n l)) (sym f.stands)
    (taken_more s (with_step s x f.step.0) x xs f.earlier f.later f.step (passed_at s x f.step.0) refl (subst (AreAfterAll s) f.stands order) asc
    (subst (λ (y : Entry). AreAlike x y) (sym f.itself) t.alike)
    (subst (λ (l : List Entry). IsApartFrom f.step.1 l) (sym f.before) (subst (λ (y : Entry). IsApartFrom y t.earlier) (sym f.itself) t.apart))
    (λ rest. taken (with_step s x f.step.0) xs (f.earlier ++ f.later) (around f.earlier f.step f.later asc).rest rest (subst (λ (l : List Entry). TakesAll xs l) left h.2)))

at_first : (ps : List Numbered) → AllByRecursion (λ (p : Numbered). 1 ≤ p.0) ps → AreAfterAll nothing_reached ps
at_first ps h = all-weaker _ _ ps (λ p later k touched. grind arith) h

pub taken_kept : (xs ys : List Entry) → TakesAll xs ys → KeepsOrder nothing_reached xs (steps_by_actor ys)
taken_kept xs ys h =
    taken nothing_reached xs (enumerate_from 1 ys) (numbers-ascend 1 ys) (at_first (enumerate_from 1 ys) (numbers-from (λ j. 1 ≤ j) 1 ys (λ j l. l)))
    (subst (λ (l : List Entry). TakesAll xs l) (sym (entries-numbered 1 ys)) h)
