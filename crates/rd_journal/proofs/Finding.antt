-- What the index of the live entries and those ahead finds, and where the entries before a closure
-- are.
use Rattle.rd_journal.proofs.Prelude.{◌≡◌, ℕ, zero, suc, ◌+◌, ◌-◌, ◌<◌, ◌≤◌, Bool, true, false, nat_lt, if◌then◌else◌, List, [], ◌∷◌, ◌++◌, length, get_or, take, drop, Option, Some, None, sym, ◌∙◌, ap, arith, length-append, length-drop, lt-ltb, le-ltb, append_assoc, length-take-le, take_at, take-append-le, drop-append-le, slice_get-get_or, position_from, first_dependant, depends, closure_from, numbered, closure_entries, without_closure, items_where_false, Entry}
use Rattle.rd_journal.proofs.Gathering.{cut_at}
use Rattle.rd_journal.proofs.ListLemmas.{nth}

-- the entry that has this number
pub numbered_in : (xs : List Entry) (k : ℕ) (x : Entry) → 1 ≤ k → k ≤ length xs → x ≡ get_or xs (k - 1) x → numbered xs k ≡ Some x
numbered_in xs k x some within here = grind (arith, slice_get-get_or)

-- the entries before the k-th stay in front when its closure is gathered behind the others
pub outside_begins : (l : List Entry) (k : ℕ) → 1 ≤ k → k ≤ length l → (rest : List Entry) × (without_closure l k ≡ take (k - 1) l ++ rest)
outside_begins l zero some within = absurd (omega arith)
outside_begins l (suc i) some within =
    let x = nth l i (omega arith) in
    (items_where_false (closure_from (x.0 ∷ []) (drop (suc i) l)) (drop (suc i) l), grind (arith, cut_at l i x.0 (omega arith) x.1))

-- the list with the closure of the k-th entry gathered behind the others and more entries after it,
-- cut before its k-th position
pub record IsCutBefore (l others : List Entry) (k : ℕ) : Type 0 where
  pub long : k - 1 ≤ length (without_closure l k)
  pub before : take (k - 1) ((without_closure l k ++ closure_entries l k) ++ others) ≡ take (k - 1) l
  pub behind : drop (k - 1) ((without_closure l k ++ closure_entries l k) ++ others) ≡ drop (k - 1) (without_closure l k) ++ (closure_entries l k ++ others)

pub cut_before : (l others : List Entry) (k : ℕ) → 1 ≤ k → k ≤ length l → IsCutBefore l others k
cut_before l others k some within =
    let out = outside_begins l k some within in
    grind (arith, length-take-le, length-append, append_assoc, take-append-le, take_at, drop-append-le)

-- the first dependant

-- what is found in the first list is found in both joined
found_before : (x : Entry) (n j : ℕ) (a b : List Entry) → position_from (depends x) n a ≡ Some j → position_from (depends x) n (a ++ b) ≡ Some j
found_before x n j [] b h = absurd cc
found_before x n j (y ∷ a) b h = grind (arith, found_before x (n + 1) j a b)

-- what is not found in the first list is searched in the second
found_behind : (x : Entry) (n : ℕ) (a b : List Entry) → position_from (depends x) n a ≡ None → position_from (depends x) n (a ++ b) ≡ position_from (depends x) (n + length a) b
found_behind x n [] b h = let e : n ≡ n + 0 = omega arith in ap (λ (m : ℕ). position_from (depends x) m b) e
found_behind x n (y ∷ a) b h = grind (arith, found_behind x (n + 1) a b)

-- a position that is found is within the list
found_within : (x : Entry) (n j : ℕ) (a : List Entry) → position_from (depends x) n a ≡ Some j → (n ≤ j) × (j < n + length a)
found_within x n j [] h = absurd cc
found_within x n j (y ∷ a) h = grind (arith, found_within x (n + 1) j a)

-- what is found, if it is the number of a live entry
abbrev pub if_live : List Entry → Option ℕ → Option ℕ
if_live live None = None
if_live live (Some j) = if nat_lt (length live) j then None else Some j

pub within_live : (n j : ℕ) → j ≤ n → Some j ≡ (if nat_lt n j then None else Some j)
within_live n j h = let no : nat_lt n j ≡ false = le-ltb n j h in ap (λ (b : Bool). if b then None else Some j) (sym no)

pub behind_live : (n j : ℕ) → n < j → None ≡ (if nat_lt n j then None else Some j)
behind_live n j h = let yes : nat_lt n j ≡ true = lt-ltb n j h in ap (λ (b : Bool). if b then None else Some j) (sym yes)

pub scan_is : (x : Entry) (live : List Entry) (k : ℕ) → numbered live k ≡ Some x → first_dependant live k ≡ position_from (depends x) (k + 1) (drop k live)
scan_is x live k here = grind arith

among : (x : Entry) (live others : List Entry) (k : ℕ) → k ≤ length live
    → position_from (depends x) (k + 1) (drop k live) ≡ if_live live (position_from (depends x) (k + 1) (drop k live ++ others))
among x live others k position = grind (arith, found_within, within_live, length-drop, found_before, found_behind, behind_live)

-- the first dependant among the live entries is what is found among all entries, if that is live
pub found_live : (x : Entry) (live others : List Entry) (k : ℕ) (found : Option ℕ) → 1 ≤ k → k ≤ length live → x ≡ get_or live (k - 1) x
    → found ≡ position_from (depends x) (k + 1) (drop k (live ++ others)) → first_dependant live k ≡ if_live live found
found_live x live others k found some within here answer = grind (arith, scan_is, numbered_in, among, drop-append-le)
