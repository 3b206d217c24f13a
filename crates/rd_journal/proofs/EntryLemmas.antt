-- The entries of a session as one list in three parts: how long the parts are, and how they change.
use Rattle.rd_journal.proofs.Prelude.{◌≡◌, ℕ, ◌+◌, ◌-◌, ◌<◌, ◌≤◌, List, [], ◌∷◌, ◌++◌, length, take, drop, sym, ◌∙◌, ap, arith, length-append, length-drop, take-add, length-take-le, drop-take, drop-drop, take_at, drop_at, moved_to, all_entries, live_entries, ahead_entries, kept_entries, entries_capacity, Entries}
use Rattle.rd_journal.proofs.ListLemmas.{drop_before}
use Rattle.rd_journal.proofs.Numbers.{at-length, order_below}

-- how many there are

pub all-length : (r : Entries) → length (all_entries r) ≡ length r.order.items
unfolding all_entries
all-length r = at-length r.slab.items r.order.items (order_below (length r.slab.items) r.order.items r.order_of_all)

pub live-length : (r : Entries) → length (live_entries r) ≡ r.live
live-length r = length-take-le r.live (all_entries r) (omega (arith, all-length r, r.within))

pub ahead-length : (r : Entries) → length (ahead_entries r) ≡ r.ahead
ahead-length r = grind (arith, length-take-le, all-length, length-drop)

pub kept-length : (r : Entries) → length (kept_entries r) ≡ r.live + r.ahead
kept-length r = omega (arith, length-append (live_entries r) (ahead_entries r), live-length r, ahead-length r)

-- how long the parts are, and that their numbers are below the slab's length
pub ruleset lengths = (all-length, live-length, ahead-length, kept-length, at-length, order_below)

-- if no entry is ahead, the number of those ahead is 0
pub none_ahead : (r : Entries) → ahead_entries r ≡ [] → r.ahead ≡ 0
none_ahead r none = omega (arith, ahead-length r, ap length none)

-- if there is no room for one more live entry, the live ones fill the room and none is ahead
pub full_entries : (r : Entries) → entries_capacity r < length (live_entries r) + 1 → (ahead_entries r ≡ []) × (entries_capacity r ≡ length (live_entries r))
full_entries r h = (grind (arith, ahead-length, live-length), grind (arith, ahead-length, live-length))

-- A list cut after its first m elements, and again after u more.

-- the first elements of two lists joined, beyond the first list
pub take_over : {X : Type 0} (xs ys : List X) (n u : ℕ) → length xs ≡ n → take (u + n) (xs ++ ys) ≡ xs ++ take u ys
take_over {X} xs ys n u h =
    let turn : u + n ≡ n + u = omega arith in
    ap (λ (m : ℕ). take m (xs ++ ys)) turn ∙ take-add n u (xs ++ ys)
    ∙ (λ i. take_at xs ys n h i ++ take u (drop_at xs ys n h i))

pub cut_back : {X : Type 0} (l : List X) (m u n : ℕ) → n ≤ m → m ≤ length l
    → take (u + n) (drop (m - n) l) ≡ drop (length (take m l) - n) (take m l) ++ take u (drop m l)
cut_back {X} l m u n enough within =
    let many : length (drop (length (take m l) - n) (take m l)) ≡ n =
    omega (arith, length-take-le m l within, length-drop (length (take m l) - n) (take m l)) in
    ap (λ (ys : List X). take (u + n) ys) (drop_before l (m - n) m n within (omega arith))
    ∙ take_over (drop (length (take m l) - n) (take m l)) (drop m l) n u many

pub cut_on_rest : {X : Type 0} (l : List X) (m u n : ℕ) → n ≤ u → take (u - n) (drop (m + n) l) ≡ drop n (take u (drop m l))
cut_on_rest {X} l m u n enough =
    let more : u ≡ n + (u - n) = omega arith in
    sym (ap (λ (k : ℕ). drop n (take k (drop m l))) more ∙ drop-take n (u - n) (drop m l) ∙ ap (λ (ys : List X). take (u - n) ys) (drop-drop n m l))

-- the k-th element of the first part, moved to its end, is in front of the second part once the
-- border has moved back
pub border-moved_to : {X : Type 0} (l : List X) (k m u : ℕ) → 1 ≤ k → k ≤ m → m ≤ length l
    → take (u + 1) (drop (m - 1) (moved_to l k m)) ≡ take 1 (drop (k - 1) (take m l)) ++ take u (drop m l)
border-moved_to {X} l k m u some position within = grind (arith, length-take-le, length-drop, length-append, drop_at, take_over)

-- an element put after the first part is its last one
pub put_last : {X : Type 0} (l new : List X) (u : ℕ) (x : X) → u ≤ length l → new ≡ take u l ++ x ∷ drop (u + 1) l → take (u + 1) new ≡ take u l ++ x ∷ []
put_last {X} l new u x within is =
    let rest = drop (u + 1) l in
    let turn : u + 1 ≡ 1 + u = omega arith in
    ap (λ (ys : List X). take (u + 1) ys) is ∙ ap (λ (n : ℕ). take n (take u l ++ x ∷ rest)) turn ∙ take_over (take u l) (x ∷ rest) u 1 (length-take-le u l within)

-- moving the border between two parts keeps both together, if the end stays
pub border_moved : {X : Type 0} (l : List X) (m u n v : ℕ) → n + v ≡ m + u → take n l ++ take v (drop n l) ≡ take m l ++ take u (drop m l)
border_moved {X} l m u n v same = sym (take-add n v l) ∙ ap (λ (k : ℕ). take k l) same ∙ take-add m u l
