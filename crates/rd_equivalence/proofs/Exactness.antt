-- If the first entry of one list and an entry of the same event that may come first in the other
-- are taken out, the rests are equivalent exactly if the lists are.
use Rattle.rd_equivalence.proofs.Prelude.{◌≡◌, ◌↔◌, ℕ, suc, ◌-◌, ◌≤◌, Bool, refl, sym, ◌∙◌, ap, subst, arith, List, [], ◌∷◌, ◌++◌, length, take, drop, length-drop, Ok, map-append, take_all, World, Stepped, step, Ran, run, IsFree, Event, Entry, IsEquivalent, events, IsRunFrom, runs_to, FirstStep, first_step, middle, same_Ok, goes_first, stands_in, DecidesEquivalence}
use Rattle.rd_equivalence.proofs.FirstOfActor.{MayComeFirst, free_of_event-unique}

-- an entry that depends on no earlier one can be made first, and the others then run on with the
-- same entries
pub free-first_step : (w : World) (xs : List Entry) (x : Entry) (ys : List Entry) → IsRunFrom w (xs ++ x ∷ ys) → IsFree x xs → FirstStep w x (xs ++ ys)
free-first_step w xs x ys h free =
    let to = runs_to w (xs ++ x ∷ ys) h in
    let m = middle w xs x ys to.last to.runs in
    let first = goes_first w x.event (events xs) (events ys) (record { world = m.before; entries = xs })
    (record { world = m.after; entry = x }) (record { world = to.last; entries = ys }) m.ran m.goes free m.rest in
    grind (arith, map-append)

-- Where the first event of the one list may be in the other

-- the event is in the list at an entry that depends on no earlier one; after its step, the other
-- events and what is left of the list are equivalent
pub record ComesFirst (w : World) (e : Event) (es : List Event) (rest : List Entry) : Type 0 where
  pub left : List Entry
  pub may : MayComeFirst e rest left
  pub stepped : Stepped
  pub goes : step w e ≡ Ok stepped
  pub on : IsEquivalent stepped.world es (events left)

pub comes_first : (w : World) (e : Event) (es : List Event) (rest : List Entry) → IsRunFrom w rest
    → IsEquivalent w (e ∷ es) (events rest) → ComesFirst w e es rest
comes_first w e es rest runs h =
    let to = runs_to w rest runs in
    let q : Ran = record { world = to.last; entries = rest } in
    let s = stands_in w e h.earlier h.later q (ap (run w) (sym h.stands) ∙ to.runs) h.independent in
    let left : h.earlier ++ h.later ≡ events (s.before ++ s.behind) =
    (λ i. sym s.before_events i ++ sym s.behind_events i) ∙ sym (map-append (λ (y : Entry). y.event) s.before s.behind) in
    record {
      left = s.before ++ s.behind;
      may = grind arith;
      stepped = h.stepped;
      goes = h.goes;
      on = subst (λ (l : List Event). IsEquivalent h.stepped.world es l) left h.rest;
    }

-- conversely, lists of which this holds are equivalent
pub stands_first : (w : World) (x : Entry) (u : World) (es : List Event) (rest left : List Entry) → IsRunFrom w rest
    → step w x.event ≡ Ok (record { world = u; entry = x }) → (m : MayComeFirst x.event rest left)
    → IsEquivalent u es (events left) → IsEquivalent w (x.event ∷ es) (events rest)
stands_first w x u es rest left runs goes m on =
    let to = runs_to w (m.earlier ++ m.entry ∷ m.later) (subst (λ (l : List Entry). IsRunFrom w l) m.stands runs) in
    let mid = middle w m.earlier m.entry m.later to.last to.runs in
    record {
      earlier = events m.earlier;
      later = events m.later;
      stands = grind (arith, map-append);
      independent = record {
        ran = record { world = mid.before; entries = m.earlier };
        runs = mid.ran;
        stepped = record { world = mid.after; entry = m.entry };
        goes = ap (step mid.before) (sym m.its_event) ∙ mid.goes;
        free = m.free;
      };
      stepped = record { world = u; entry = x };
      goes = goes;
      rest = grind (arith, map-append);
    }

-- the entries that are left are the same, however the entry was found
left-unique : (e : Event) (rest l k : List Entry) → MayComeFirst e rest l → MayComeFirst e rest k → l ≡ k
left-unique e rest l k a b = grind (arith, free_of_event-unique)

-- if the first event of one run may come first in another run from the same world, its entry is the
-- same there, and what is left runs from the world after it
pub record RunsOn (v : World) (x entry : Entry) (left : List Entry) : Type 0 where
  pub same : entry ≡ x
  pub runs : IsRunFrom v left

pub runs_on : (w : World) (x : Entry) (xs ys left : List Entry) (first : FirstStep w x xs) → IsRunFrom w ys → (m : MayComeFirst x.event ys left)
    → RunsOn first.after x m.entry left
runs_on w x xs ys left first runs m =
    let to_front = free-first_step w m.earlier m.entry m.later (subst (λ (l : List Entry). IsRunFrom w l) m.stands runs) m.free in
    let same : record { world = to_front.after; entry = m.entry } ≡ record { world = first.after; entry = x } =
    same_Ok _ _ (sym to_front.goes ∙ ap (step w) m.its_event ∙ first.goes) in
    record {
      same = ap (λ (s : Stepped). s.entry) same;
      runs = grind arith;
    }

-- the two runs are equivalent exactly if what is left of them is
pub equivalent_first : (w : World) (x : Entry) (xs ys left : List Entry) (first : FirstStep w x xs) → IsRunFrom w ys → MayComeFirst x.event ys left
    → IsEquivalent w (events (x ∷ xs)) (events ys) ↔ IsEquivalent first.after (events xs) (events left)
equivalent_first w x xs ys left first runs m = (
  λ h.
      let c = comes_first w x.event (events xs) ys runs h in
      let there : c.stepped ≡ record { world = first.after; entry = x } = same_Ok _ _ (sym c.goes ∙ first.goes) in
      subst (λ (s : Stepped). IsEquivalent s.world (events xs) (events left)) there
      (subst (λ (l : List Entry). IsEquivalent c.stepped.world (events xs) (events l)) (left-unique x.event ys c.left left c.may m) c.on),
  λ h. stands_first w x first.after (events xs) ys left runs first.goes m h,
)

-- A common beginning

-- after a common beginning of two runs: the rests of both run from the world there, and the runs
-- are equivalent exactly if their rests are
record Behind (w : World) (a b xs ys : List Entry) : Type 0 where
  here : World
  first_runs : IsRunFrom here xs
  second_runs : IsRunFrom here ys
  exactly : IsEquivalent w (events a) (events b) ↔ IsEquivalent here (events xs) (events ys)

behind : (n : ℕ) (w : World) (a b : List Entry) → IsRunFrom w a → IsRunFrom w b → n ≤ length a → n ≤ length b
    → events (take n a) ≡ events (take n b) → Behind w a b (drop n a) (drop n b)
behind (suc n) w (x ∷ xs) (y ∷ ys) runs_a runs_b in_a in_b h =
    let e : y.event ≡ x.event = cc in
    let m : MayComeFirst x.event (y ∷ ys) ys =
    record { earlier = []; entry = y; later = ys; stands = refl; its_event = e; free = refl; leaves = refl } in
    let first = first_step w x xs runs_a in
    let one = equivalent_first w x xs (y ∷ ys) ys first runs_b m in
    let r = behind n first.after xs ys first.rest (runs_on w x xs (y ∷ ys) ys first runs_b m).runs (omega arith) (omega arith) cc in
    grind arith
behind n w a b runs_a runs_b in_a in_b h = grind arith

all_behind : (a : List Entry) (n : ℕ) → take (length a - n) (drop n a) ≡ drop n a
all_behind a n = take_all (length a - n) (drop n a) (omega (arith, length-drop n a))

-- an answer that is right for what follows a common beginning is right for the whole lists
pub right_behind : (a b : List Entry) (n : ℕ) (same : Bool) → n ≤ length a → n ≤ length b → events (take n a) ≡ events (take n b)
    → DecidesEquivalence (take (length a - n) (drop n a)) (take (length b - n) (drop n b)) same → DecidesEquivalence a b same
right_behind a b n same in_a in_b h right w runs_a runs_b =
    let r = behind n w a b runs_a runs_b in_a in_b h in
    let rest : DecidesEquivalence (drop n a) (drop n b) same = grind (arith, all_behind) in
    let there = rest r.here r.first_runs r.second_runs in
    (λ k. r.exactly.1 (there.0 k), λ k. there.1 (r.exactly.0 k))
