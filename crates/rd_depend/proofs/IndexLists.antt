-- Ascending positions: the search for the first that is above a number, and what they become when
-- one is moved.
use Rattle.rd_depend.proofs.Prelude.{◌≡◌, ℕ, suc, ◌+◌, ◌-◌, ◌*◌, ◌/◌, ◌^◌, ◌<◌, ◌≤◌, ◌==◌, Bool, true, false, not, nat_lt, List, [], ◌∷◌, ◌++◌, length, get_or, map, drop, take, cond, if◌then◌else◌, ◌||◌, ◌≢◌, refl, sym, ap, ◌∙◌, arith, append_assoc, eqb-true, length-drop, subst, nat_tests, eqb-false, take_all, take-append-drop, AscendsFrom, IsAscending, before_first, contains, moved_position, position_or_len, lowered_and_rotated, IsMoved, prefix_len-le-length, prefix_len_is, list_any-append, leb}
use Rattle.std.specs.List.Sorted.{IsNonDecreasingBy, IsPartitionPoint}
use Rattle.std.proofs.Math.Nat.{pow-succ'}
use Rattle.std.proofs.lemmas.List.Sums.{fails_before_first}

-- positions that ascend from n also ascend from any lower start
pub ascends_lower : (m n : ℕ) (ps : List ℕ) → m ≤ n → AscendsFrom n ps → AscendsFrom m ps
ascends_lower m n [] le h = tt
ascends_lower m n (p ∷ ps) le h = (omega arith, h.1)

-- each position is at least the start
pub ascends-at : (n : ℕ) (ps : List ℕ) (i d : ℕ) → AscendsFrom n ps → i < length ps → n ≤ get_or ps i d
ascends-at n (p ∷ ps) (suc i) d h within = let rest = ascends-at (suc p) ps i d h.1 (omega arith) in omega arith
ascends-at n ps i d h within = grind arith

-- no position is less than the one before it
pub non_decreasing : (n : ℕ) (ps : List ℕ) → AscendsFrom n ps → IsNonDecreasingBy (λ p. p) ps
non_decreasing n (p ∷ ps) h (suc i) (suc j) d le within = non_decreasing (suc p) ps h.1 i j d (omega arith) (omega arith)
non_decreasing n ps h i j d le within = grind (arith, ascends-at)

-- the number of those before the first that is greater

-- a position that is at most k is before the first that is greater
pub index-below_number : (n k : ℕ) (ps : List ℕ) (i d : ℕ) → AscendsFrom n ps → i < length ps → get_or ps i d ≤ k → i < position_or_len (nat_lt k) ps
index-below_number n k (p ∷ ps) (suc i) d h within le = grind (arith, nat_tests, ascends-at, index-below_number (suc p) k ps i d h.1 (omega arith) le)
index-below_number n k ps i d h within le = grind arith

-- a position above k is not before the first that is greater
pub number-up_to_index : (k : ℕ) (ps : List ℕ) (i d : ℕ) → i < length ps → k < get_or ps i d → position_or_len (nat_lt k) ps ≤ i
number-up_to_index k ps i d within gt = grind (arith, nat_tests, fails_before_first (nat_lt k) ps i d)

-- if there are positions and the last is at most k, all are before the first that is greater
pub number-all : (k : ℕ) (ps : List ℕ) (d : ℕ) → IsAscending ps → 1 ≤ length ps → get_or ps (length ps - 1) d ≤ k → length ps ≡ position_or_len (nat_lt k) ps
number-all k ps d up some le = omega (arith, prefix_len-le-length (λ p. not (nat_lt k p)) ps, index-below_number 0 k ps (length ps - 1) d up (omega arith) le)

-- if there are no positions, none is before the first that is greater
pub number-none : (k : ℕ) (ps : List ℕ) → length ps ≡ 0 → length ps ≡ position_or_len (nat_lt k) ps
number-none k ps none = omega (arith, none, prefix_len-le-length (λ p. not (nat_lt k p)) ps)

-- half of a number below a power of two is below the next lower power
pub halved : (round n : ℕ) → round < 17 → n < 2 ^ (17 - round) → n / 2 < 2 ^ (17 - (round + 1))
halved round n within h = let e : 2 ^ (17 - round) ≡ 2 * 2 ^ (17 - (round + 1)) = powers (17 - round) (17 - (round + 1)) (omega arith) in omega arith
  where
    powers : (m k : ℕ) → m ≡ suc k → 2 ^ m ≡ 2 * 2 ^ k
    powers m k h = rw h (pow-succ' 2 k)

-- the point that parts the positions up to k from the others is the number of those up to k
pub point-is : (k : ℕ) (ps : List ℕ) (i : ℕ) → IsPartitionPoint (λ p. leb p k ≡ true) (λ p. leb p k ≡ false) ps i → i ≤ length ps → i ≡ position_or_len (nat_lt k) ps
point-is k ps i point within =
    sym (prefix_len_is (λ p. not (nat_lt k p)) ps i 0 within (λ j l. let e = point.0 j 0 (omega arith) l in grind (arith, nat_tests))
    (λ l. let e = point.1 i 0 (omega arith) l in grind (arith, nat_tests)))

-- Positions in parts

-- each position is greater than the one before it, the first is at least m, and all are at most n
abbrev Within : ℕ → ℕ → List ℕ → Type 0
Within m n [] = Unit {0}
Within m n (p ∷ ps) = (m ≤ p) × (p ≤ n) × Within (suc p) n ps

-- what is before the first that fails the test, and what is from it on
parted : (b : Bool) (m p : ℕ) (ps : List ℕ)
    → (take (cond (not b) (1 + m) 0) (p ∷ ps) ≡ (if b then [] else p ∷ take m ps)) × (drop (cond (not b) (1 + m) 0) (p ∷ ps) ≡ (if b then p ∷ ps else drop m ps))
parted b m p ps = grind arith

pub front-cons : (n p : ℕ) (ps : List ℕ) → before_first (nat_lt n) (p ∷ ps) ≡ (if nat_lt n p then [] else p ∷ before_first (nat_lt n) ps)
front-cons n p ps = (parted (nat_lt n p) (position_or_len (nat_lt n) ps) p ps).0

front-within : (m n : ℕ) (ps : List ℕ) → AscendsFrom m ps → Within m n (before_first (nat_lt n) ps)
front-within m n [] h = tt
front-within m n (p ∷ ps) h = grind (arith, nat_tests, front-cons, front-within (suc p) n ps h.1)

rest-ascends : (m n : ℕ) (ps : List ℕ) → AscendsFrom m ps → m ≤ suc n → AscendsFrom (suc n) (drop (position_or_len (nat_lt n) ps) ps)
rest-ascends m n [] h le = tt
rest-ascends m n (p ∷ ps) h le = grind (arith, nat_tests, (parted (nat_lt n p) (position_or_len (nat_lt n) ps) p ps).1, rest-ascends (suc p) n ps h.1)

within-append : (m n : ℕ) (ps qs : List ℕ) → m ≤ suc n → Within m n ps → AscendsFrom (suc n) qs → AscendsFrom m (ps ++ qs)
within-append m n [] qs le h above = ascends_lower m (suc n) qs le above
within-append m n (p ∷ ps) qs le h above = (h.0, within-append (suc p) n ps qs (omega arith) h.2 above)

lowered-within : (m n : ℕ) (ps : List ℕ) → Within (suc m) n ps → Within m (n - 1) (map (λ p. p - 1) ps)
lowered-within m n [] h = tt
lowered-within m n (p ∷ ps) h = grind (arith, lowered-within p n ps h.2)

lowered_and_rotated-ascends : (k n : ℕ) (ps qs : List ℕ) → 1 ≤ k → k ≤ n → Within k n ps → AscendsFrom (suc n) qs → AscendsFrom k (lowered_and_rotated k n ps ++ qs)
lowered_and_rotated-ascends k n [] qs some order h above = ascends_lower k (suc n) qs (omega arith) above
lowered_and_rotated-ascends k n (p ∷ ps) qs some order h above = by (p == k) (eqb-true p k) (eqb-false p k)
  where
    by : (b : Bool) → (b ≡ true → p ≡ k) → (b ≡ false → p ≢ k) → AscendsFrom k ((if b then map (λ q. q - 1) ps ++ n ∷ [] else map (λ q. q - 1) (p ∷ ps)) ++ qs)
    by true same other = grind (arith, append_assoc, within-append k (n - 1) (map (λ q. q - 1) ps) (n ∷ qs), lowered-within k n ps)
    by false same other =
        within-append k (n - 1) (map (λ q. q - 1) (p ∷ ps)) qs (omega arith) (grind (arith, lowered-within k n (p ∷ ps))) (ascends_lower (suc (n - 1)) (suc n) qs (omega arith) above)

-- what becomes of each position

low-has : (m k n p : ℕ) (ps : List ℕ) → Within m (k - 1) ps → 1 ≤ k → k ≤ n → contains ps (moved_position k n p) ≡ contains ps p
low-has m k n p [] h some order = refl
low-has m k n p (q ∷ qs) h some order = grind (arith, nat_tests, low-has (suc q) k n p qs h.2 some order)

high-has : (m k n p : ℕ) (ps : List ℕ) → AscendsFrom m ps → n < m → k ≤ n → contains ps (moved_position k n p) ≡ contains ps p
high-has m k n p [] h above order = refl
high-has m k n p (q ∷ qs) h above order = grind (arith, nat_tests, high-has (suc q) k n p qs h.1 (omega arith) order)

lowered-has : (m k n p : ℕ) (ps : List ℕ) → Within m n ps → k < m → contains (map (λ q. q - 1) ps) (moved_position k n p) ≡ contains ps p
lowered-has m k n p [] h above = refl
lowered-has m k n p (q ∷ qs) h above = grind (arith, nat_tests, lowered-has (suc q) k n p qs h.2 (omega arith))

lowered_and_rotated-has : (k n p : ℕ) (ps : List ℕ) → Within k n ps → contains (lowered_and_rotated k n ps) (moved_position k n p) ≡ contains ps p
lowered_and_rotated-has k n p [] h = refl
lowered_and_rotated-has k n p (q ∷ qs) h = grind (arith, nat_tests, list_any-append, lowered-has (suc q) k n p qs h.2, lowered-has (suc k) k n p (q ∷ qs))

-- if the positions from k up to n are turned and the others stay, k is moved to n
pub moved : (k n start size : ℕ) (ps turns new : List ℕ) → 1 ≤ k → k ≤ n → (IsAscending ps → start ≡ position_or_len (nat_lt (k - 1)) ps)
    → (IsAscending (take (length ps - start) (drop start ps)) → size ≡ position_or_len (nat_lt n) (take (length ps - start) (drop start ps)))
    → turns ≡ lowered_and_rotated k n (take (start + size - start) (drop start ps)) → new ≡ take start ps ++ (turns ++ drop (start + size - start) (drop start ps)) → IsAscending ps → IsMoved k n ps new
unfolding IsMoved
moved k n start size ps turns new some order at until turn is up =
    let low = take start ps in
    let rest = drop start ps in
    let mid = take size rest in
    let high = drop size rest in
    let is_low : Within 0 (k - 1) low = subst (λ (i : ℕ). Within 0 (k - 1) (take i ps)) (sym (at up)) (front-within 0 (k - 1) ps up) in
    let from_k : AscendsFrom k rest = subst (λ (i : ℕ). AscendsFrom k (drop i ps)) (sym (at up)) (ascends_lower k (suc (k - 1)) _ (omega arith) (rest-ascends 0 (k - 1) ps up (omega arith))) in
    let all : take (length ps - start) rest ≡ rest = take_all (length ps - start) rest (omega (arith, length-drop start ps)) in
    let ends : size ≡ position_or_len (nat_lt n) rest =
    until (subst IsAscending (sym all) (ascends_lower 0 k rest (omega arith) from_k)) ∙ ap (position_or_len (nat_lt n)) all in
    let is_mid : Within k n mid = subst (λ (i : ℕ). Within k n (take i rest)) (sym ends) (front-within k n rest from_k) in
    let is_high : AscendsFrom (suc n) high = subst (λ (i : ℕ). AscendsFrom (suc n) (drop i rest)) (sym ends) (rest-ascends k n rest from_k (omega arith)) in
    let long : start + size - start ≡ size = omega arith in
    let parts : turns ++ drop (start + size - start) rest ≡ lowered_and_rotated k n mid ++ high =
    λ i. (turn ∙ ap (λ (j : ℕ). lowered_and_rotated k n (take j rest)) long) i ++ drop (long i) rest in
    subst (IsMoved k n ps) (sym (is ∙ (λ i. low ++ parts i))) (
      within-append 0 (k - 1) low _ (omega arith) is_low (ascends_lower (suc (k - 1)) k _ (omega arith) (lowered_and_rotated-ascends k n mid high some order is_mid is_high)),
      λ p.
          list_any-append _ low (lowered_and_rotated k n mid ++ high)
          ∙ (λ i. low-has 0 k n p low is_low some order i || (list_any-append (λ q. q == moved_position k n p) (lowered_and_rotated k n mid) high ∙ (λ j. lowered_and_rotated-has k n p mid is_mid j || high-has (suc n) k n p high is_high (omega arith) order j)) i)
          ∙ sym (list_any-append _ low (mid ++ high) ∙ ap (λ (b : Bool). contains low p || b) (list_any-append _ mid high))
          ∙ ap (λ (l : List ℕ). contains l p) (ap (λ (l : List ℕ). low ++ l) (take-append-drop size rest) ∙ take-append-drop start ps),
    )

-- moving among no positions leaves none
pub none_moved : (k n : ℕ) → IsMoved k n [] []
unfolding IsMoved
none_moved k n = (tt, λ p. refl)

-- if all positions are below k, they are as before
pub unmoved : (k n start : ℕ) (ps : List ℕ) → 1 ≤ k → k ≤ n → (IsAscending ps → start ≡ position_or_len (nat_lt (k - 1)) ps) → start ≡ length ps → IsAscending ps → IsMoved k n ps ps
unmoved k n start ps some order at all =
    let none : length ps - start ≡ 0 = omega (arith, all) in
    let zero_long : start + 0 - start ≡ 0 = omega arith in
    moved k n start 0 ps [] ps some order at (λ up. grind arith) (grind arith) (grind (arith, take-append-drop))
