-- Moving a position in all lists: the index is then that of the entries with that one moved, and
-- has the same room.
use Rattle.rd_depend.proofs.Prelude.{◌≡◌, ℕ, zero, suc, ◌+◌, ◌-◌, ◌<◌, ◌≤◌, ◌==◌, Bool, false, nat_lt, if◌then◌else◌, List, [], ◌∷◌, ◌++◌, length, slice_get, take, drop, Option, Some, None, refl, sym, ap, subst, ◌∙◌, append_assoc, arith, length-append, length-drop, option_map_or, nat_tests, drop_of_length-le, length-take-le, take_all, take-append-drop, drop-drop, Entry, numbered, without, DependIndex, AscendsFrom, IsAscending, contains, moved_position, positions_from, positions, count_by, is_listed_for, ListKey, kept, capacity, IsIndexOf, HasSameRoom, IsMoved, moved_to}
use Rattle.rd_depend.proofs.IndexPositions.{positions-ascend, ascending, count_by-append, count_by-cons}
use Rattle.rd_depend.proofs.Elements.{drop-element}
use Rattle.rd_depend.proofs.IndexFirst.{kept-ascends}
use Rattle.rd_depend.proofs.IndexRoom.{room_stays}

-- a list cut before its k-th element, after it, and after its n-th
record Cut {X : Type 0} (es : List X) (k n : ℕ) : Type 0 where
  low : List X
  x : X
  mid : List X
  high : List X
  is : es ≡ low ++ ((x ∷ mid) ++ high)
  moved : moved_to es k n ≡ (low ++ mid) ++ (x ∷ high)
  before : k ≡ suc (length low)
  until : n ≡ k + length mid

cut : {X : Type 0} (es : List X) (k n : ℕ) → 1 ≤ k → k ≤ n → n ≤ length es → Cut es k n
cut {X} es k n some order within = by (drop (k - 1) first) refl
  where
    first : List X
    first = take n es

    by : (ys : List X) → drop (k - 1) first ≡ ys → Cut es k n
    by [] e = absurd (omega (arith, ap length e, length-drop (k - 1) first, length-take-le n es within))
    by (x ∷ mid) e =
        let low = take (k - 1) first in
        let one : k ≡ (k - 1) + 1 = omega arith in
        let behind : drop k first ≡ mid = ap (λ (m : ℕ). drop m first) one ∙ sym (drop-drop 1 (k - 1) first) ∙ ap (drop 1) e in
        record {
          low = low;
          x = x;
          mid = mid;
          high = drop n es;
          is =
              sym (take-append-drop n es) ∙ ap (λ (l : List X). l ++ drop n es) (sym (take-append-drop (k - 1) first) ∙ ap (λ (l : List X). low ++ l) e)
              ∙ append_assoc low (x ∷ mid) (drop n es);
          moved = λ i. (low ++ behind i) ++ (take 1 (e i) ++ drop n es);
          before = omega (arith, length-take-le (k - 1) first (omega (arith, length-take-le n es within)));
          until = omega (arith, ap length e, length-drop (k - 1) first, length-take-le n es within);
        }

-- Where each entry is then

get-append : {X : Type 0} (xs ys : List X) (i : ℕ) → slice_get (xs ++ ys) i ≡ (if nat_lt i (length xs) then slice_get xs i else slice_get ys (i - length xs))
get-append (x ∷ xs) ys (suc i) = grind (arith, nat_tests, get-append xs ys i)
get-append xs ys i = grind arith

pub number-is : {X : Type 0} (xs : List X) (q : ℕ) → numbered xs q ≡ (if q == 0 then None else slice_get xs (q - 1))
number-is xs q = grind arith

at_moved : (low mid high : List Entry) (x : Entry) (k n p : ℕ) → k ≡ suc (length low) → n ≡ k + length mid
    → numbered ((low ++ mid) ++ x ∷ high) (moved_position k n p) ≡ numbered (low ++ ((x ∷ mid) ++ high)) p
at_moved low mid high x k n p before until = grind (arith, nat_tests, get-append, number-is, length-append)

-- the number that the entry at q had before the k-th was moved to n
abbrev moved_from : ℕ → ℕ → ℕ → ℕ
moved_from k n q = if nat_lt q k then q else (if q == n then k else (if nat_lt q n then q + 1 else q))

there_and_back : (k n q : ℕ) → 1 ≤ k → k ≤ n → moved_position k n (moved_from k n q) ≡ q
there_and_back k n q some order = grind (arith, nat_tests)

-- Ascending positions are known by which are among them

has-below : (m p : ℕ) (ps : List ℕ) → AscendsFrom m ps → p < m → contains ps p ≡ false
has-below m p [] h less = refl
has-below m p (q ∷ qs) h less = grind (arith, nat_tests, has-below (suc q) p qs h.1 (omega arith))

first-least : (x y : ℕ) (xs ys : List ℕ) → AscendsFrom (suc y) ys → contains (x ∷ xs) x ≡ contains (y ∷ ys) x → y ≤ x
first-least x y xs ys h same = grind (arith, nat_tests, has-below)

same_ascending : (m n : ℕ) (xs ys : List ℕ) → AscendsFrom m xs → AscendsFrom n ys → ((p : ℕ) → contains xs p ≡ contains ys p) → xs ≡ ys
same_ascending m n [] [] h g same = refl
same_ascending m n [] (y ∷ ys) h g same = let e = same y in grind (arith, nat_tests)
same_ascending m n (x ∷ xs) [] h g same = let e = same x in grind (arith, nat_tests)
same_ascending m n (x ∷ xs) (y ∷ ys) h g same =
    let below = first-least x y xs ys g.1 (same x) in
    let above = first-least y x ys xs h.1 (sym (same y)) in
    let e : x ≡ y = omega arith in
    (λ i. e i ∷ same_ascending (suc x) (suc y) xs ys h.1 g.1 (λ p. let same_p = same p in grind (arith, nat_tests, has-below)) i)

-- the positions of entries are those of the ones that pass the test

-- n + j is among the positions, counted from n, of the entries that pass the test exactly if there
-- is a j-th entry, counted from 0, and it passes
has-positions : (test : Entry → Bool) (n j : ℕ) (es : List Entry) → contains (positions_from test n es) (n + j) ≡ option_map_or test (slice_get es j) false
has-positions test n j [] = refl
has-positions test n zero (x ∷ xs) = grind (arith, nat_tests, has-below (n + 1) (n + 0) (positions_from test (n + 1) xs) (positions-ascend test (n + 1) xs))
has-positions test n (suc j) (x ∷ xs) = grind (arith, nat_tests, has-positions test (n + 1) j xs)

-- the same for positions counted from 1
has-numbered : (test : Entry → Bool) (p : ℕ) (es : List Entry) → contains (positions test es) p ≡ option_map_or test (numbered es p) false
has-numbered test zero es = has-below 1 0 (positions test es) (positions-ascend test 1 es) (omega arith)
has-numbered test (suc j) es = let e : suc j ≡ 1 + j = omega arith in ap (contains (positions test es)) e ∙ has-positions test 1 j es

positions-moved : (test : Entry → Bool) (k n : ℕ) (es : List Entry) (new : List ℕ) → 1 ≤ k → k ≤ n → Cut es k n → IsMoved k n (positions test es) new → new ≡ positions test (moved_to es k n)
unfolding IsMoved
positions-moved test k n es new some order c all =
    let to = moved_to es k n in
    let at : (p : ℕ) → numbered es p ≡ numbered to (moved_position k n p) = λ p.
    ap (λ (l : List Entry). numbered l p) c.is ∙ sym (at_moved c.low c.mid c.high c.x k n p c.before c.until) ∙ ap (λ (l : List Entry). numbered l (moved_position k n p)) (sym c.moved) in
    same_ascending 0 0 new (positions test to) all.0 (ascending test to) (λ q.
    let p = moved_from k n q in
    let e = there_and_back k n q some order in
    ap (contains new) (sym e) ∙ all.1 p ∙ has-numbered test p es ∙ ap (λ (o : Option Entry). option_map_or test o false) (at p)
    ∙ sym (has-numbered test (moved_position k n p) to) ∙ ap (contains (positions test to)) e)

count_by-moved : (test : Entry → Bool) (es : List Entry) (k n : ℕ) → Cut es k n → count_by test (moved_to es k n) ≡ count_by test es
count_by-moved test es k n c = grind (arith, count_by-append test, count_by-cons test)

length-moved : (es : List Entry) (k n : ℕ) → Cut es k n → length (moved_to es k n) ≡ length es
length-moved es k n c = grind (arith, length-append)

-- in each list that ascends, position k was moved to n
abbrev MovesAll : ℕ → ℕ → DependIndex → DependIndex → Type 0
MovesAll k n old new = (t : ListKey) → IsAscending (kept old t) → IsMoved k n (kept old t) (kept new t)

pub moved_index : (old new : DependIndex) (k n : ℕ) → 1 ≤ k → k ≤ n → n ≤ old.len → MovesAll k n old new → new.len ≡ old.len → (es : List Entry) → IsIndexOf old es
    → IsIndexOf new (moved_to es k n)
moved_index old new k n some order within moves len es is =
    let c = cut es k n some order (omega arith) in
    record {
      lists = λ t.
          positions-moved (is_listed_for t) k n es (kept new t) some order c
          (subst (λ (ps : List ℕ). IsMoved k n ps (kept new t)) (is.lists t) (moves t (kept-ascends old es is t)));
      len = len ∙ is.len ∙ sym (length-moved es k n c);
    }

pub moved_room : (old new : DependIndex) (k n : ℕ) → 1 ≤ k → k ≤ n → n ≤ old.len → ((es : List Entry) → IsIndexOf old es → IsIndexOf new (moved_to es k n))
    → ((t : ListKey) → capacity new t ≡ capacity old t) → (es : List Entry) → IsIndexOf old es → HasSameRoom old new
moved_room old new k n some order within moves stays es is = λ t.
    omega (arith, room_stays old new es (moved_to es k n) is (moves es is) stays t, count_by-moved (is_listed_for t) es k n (cut es k n some order (omega arith)))

-- an entry moved to the end of the list is removed and put last
pub moved_last : (es : List Entry) (k n : ℕ) (x : Entry) → n ≡ length es → numbered es k ≡ Some x → moved_to es k n ≡ without es k ++ x ∷ []
moved_last es k n x all h = grind (arith, take_all, drop_of_length-le, drop-element)
