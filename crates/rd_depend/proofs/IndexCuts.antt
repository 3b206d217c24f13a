-- Removing the positions above a number from all lists leaves the index of the first entries.
use Rattle.rd_depend.proofs.Prelude.{◌≡◌, ℕ, suc, ◌+◌, ◌<◌, Bool, nat_lt, List, [], ◌∷◌, take, drop, ap, arith, nat_tests, length-take-le, take-append-drop, Entry, DependIndex, AscendsFrom, before_first, ListKey, positions_from, count_by, is_listed_for, IsAscending, kept, capacity, IsIndexOf, GivesRoom}
use Rattle.rd_depend.proofs.IndexLists.{front-cons}
use Rattle.rd_depend.proofs.IndexPositions.{positions-ascend, count_by-append}
use Rattle.rd_depend.proofs.IndexFirst.{kept-ascends}
use Rattle.rd_depend.proofs.IndexRoom.{room_stays}

-- the positions of the first entries

none_left : (m n : ℕ) (ps : List ℕ) → AscendsFrom m ps → n < m → before_first (nat_lt n) ps ≡ []
none_left m n ps h less = grind (arith, front-cons)

pub positions-up_to : (test : Entry → Bool) (n m k : ℕ) (es : List Entry) → k + m ≡ n + 1 → before_first (nat_lt n) (positions_from test m es) ≡ positions_from test m (take k es)
positions-up_to test n m (suc k) (x ∷ xs) h = grind (arith, nat_tests, front-cons, positions-up_to test n (m + 1) k xs (omega arith))
positions-up_to test n m k es h = grind (arith, none_left, positions-ascend)

-- each list lost its positions above n
abbrev CutsAll : ℕ → DependIndex → DependIndex → Type 0
CutsAll n old new = (t : ListKey) → IsAscending (kept old t) → kept new t ≡ before_first (nat_lt n) (kept old t)

pub index-cut : (old new : DependIndex) (n : ℕ) → CutsAll n old new → new.len ≡ n → n < old.len → (es : List Entry) → IsIndexOf old es → IsIndexOf new (take n es)
index-cut old new n cuts len less es is = grind (arith, kept-ascends, positions-up_to, length-take-le)

-- if the first entries are left, and the capacities are as before, the other entries have given
-- their room back
pub cut_room : (old new : DependIndex) (n : ℕ) → ((es : List Entry) → IsIndexOf old es → IsIndexOf new (take n es)) → ((t : ListKey) → capacity new t ≡ capacity old t)
    → (es : List Entry) → IsIndexOf old es → GivesRoom old new (drop n es)
cut_room old new n cuts stays es was = λ t.
    omega (arith, room_stays old new es (take n es) was (cuts es was) stays t, ap (count_by (is_listed_for t)) (take-append-drop n es), count_by-append (is_listed_for t) (take n es) (drop n es))
