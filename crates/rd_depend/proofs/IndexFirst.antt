-- The first dependant of a step, from the first later positions in the lists of its actor, its
-- place and its segment.
use Rattle.std.specs.Prelude.{unwrap_or}
use Rattle.std.proofs.lemmas.List.Sums.{count_by-le-length}
use Rattle.rd_depend.proofs.Prelude.{list_any, ◌≡◌, ℕ, suc, ◌+◌, ◌<◌, ◌≤◌, Bool, true, false, not, ◌||◌, ◌==◌, nat_lt, List, [], ◌∷◌, length, drop, Option, Some, None, refl, sym, ap, subst, ◌∙◌, arith, nat_tests, is_some, SegName, Place, some_overlap, is_nothing, written, interfere, Entry, Wrote, position_from, depends, depends_on_any, depends_symmetric, DependIndex, At, In, is_under, is_under_some, search_key, value_key_of_place, whole_key, IsAscending, find, earlier, ListKey, By, touched_or_written, is_value_written, is_listed_for, positions_from, positions, kept, IsIndexOf}
use Rattle.rd_depend.proofs.IndexPositions.{positions-number, ascending}
use Rattle.rd_cell.specs.declared.places.Place.TheVariants as place

-- tests that agree on each entry give the same positions
pub positions-same : (t u : Entry → Bool) → ((y : Entry) → t y ≡ u y) → (n : ℕ) (es : List Entry) → positions_from t n es ≡ positions_from u n es
positions-same t u h n es = grind arith

-- a search above k finds the same without the first j entries, if their positions are at most k
skipped : (test : Entry → Bool) (k n j : ℕ) (es : List Entry) → n + j ≤ k + 1 → find (nat_lt k) (positions_from test n es) ≡ find (nat_lt k) (positions_from test (n + j) (drop j es))
skipped test k n (suc j) (x ∷ xs) h = grind (arith, nat_tests, skipped test k (n + 1) j xs (omega arith))
skipped test k n j es h = grind arith

scanned : (test : Entry → Bool) (k n : ℕ) (es : List Entry) → k < n → find (nat_lt k) (positions_from test n es) ≡ position_from test n es
scanned test k n [] h = refl
scanned test k n (y ∷ ys) h = grind (arith, nat_tests, scanned test k (n + 1) ys (omega arith))

-- the first position above k that passes is the first one in a scan of the entries after the first
-- k
pub first-after : (test : Entry → Bool) (k : ℕ) (es : List Entry) → find (nat_lt k) (positions test es) ≡ position_from test (k + 1) (drop k es)
first-after test k es = grind (arith, skipped test k 1 k es (omega arith), scanned test k (k + 1) (drop k es) (omega arith))

-- a position that a scan finds is at least the first one
scanned-from : (test : Entry → Bool) (n : ℕ) (es : List Entry) → n ≤ unwrap_or (position_from test n es) n
scanned-from test n [] = omega arith
scanned-from test n (x ∷ xs) = grind (arith, scanned-from test (n + 1) xs)

earlier-scanned : (t u v : Entry → Bool) → ((y : Entry) → v y ≡ (t y || u y)) → (n : ℕ) (es : List Entry)
    → earlier (position_from t n es) (position_from u n es) ≡ position_from v n es
earlier-scanned t u v h n [] = refl
earlier-scanned t u v h n (x ∷ xs) =
    grind (arith, h x, scanned-from t (n + 1) xs, scanned-from u (n + 1) xs, earlier-scanned t u v h (n + 1) xs)

-- the lesser of what two tests find first is what either test finds first
pub earlier-first : (t u v : Entry → Bool) → ((y : Entry) → v y ≡ (t y || u y)) → (k : ℕ) (es : List Entry)
    → earlier (find (nat_lt k) (positions t es)) (find (nat_lt k) (positions u es)) ≡ find (nat_lt k) (positions v es)
earlier-first t u v h k es =
    (λ i. earlier (first-after t k es i) (first-after u k es i)) ∙ earlier-scanned t u v h (k + 1) (drop k es) ∙ sym (first-after v k es)

-- a scan finds an entry exactly if one passes
pub scanned-any : (test : Entry → Bool) (n : ℕ) (ys : List Entry) → is_some (position_from test n ys) ≡ list_any test ys
scanned-any test n [] = refl
scanned-any test n (y ∷ ys) = grind (arith, scanned-any test (n + 1) ys)

-- a scan finds an entry that depends on x exactly if x depends on one of the entries
pub found-on : (x : Entry) (n : ℕ) (ys : List Entry) → is_some (position_from (depends x) n ys) ≡ depends_on_any ys x
found-on x n ys = scanned-any (depends x) n ys ∙ (λ i. list_any (λ y. depends_symmetric x y i) ys)

-- a position above k is found exactly if the step depends on one of the entries after the first k
pub found-after : (x : Entry) (k : ℕ) (es : List Entry) → is_some (find (nat_lt k) (positions (depends x) es)) ≡ depends_on_any (drop k es) x
found-after x k es = ap is_some (first-after (depends x) k es) ∙ found-on x (k + 1) (drop k es)

-- which places overlap

-- the places that overlap the whole of a segment are those that are kept under the segment's key
pub overlaps-whole : (s : SegName) (o : Option Place) → some_overlap (Some (place.Whole s)) o ≡ is_under (In s) o
overlaps-whole s o = grind arith

-- the places that overlap a cell are its halves, the cell, and the whole of the segment
pub overlaps-cell : (s : SegName) (i : ℕ) (o : Option Place)
    → some_overlap (Some (place.Cell s i)) o ≡ (is_under (At (place.Val s i)) o || (is_under (At (place.Idx s i)) o || is_under (At (place.Whole s)) o))
overlaps-cell s i o = grind arith

-- whether a step at a place is kept under one of the three keys at which a search for place p
-- looks: of a cell's value half, of what else p names, and of the whole of its segment
abbrev pub overlaps_under : Place → Option Place → Bool
overlaps_under p o = is_under_some (value_key_of_place p) o || (is_under (search_key p) o || is_under_some (whole_key p) o)

pub overlaps-keys : (p : Place) (o : Option Place) → some_overlap (Some p) o ≡ overlaps_under p o
overlaps-keys p o = grind (arith, overlaps-whole, overlaps-cell)

-- the lists of an index

pub kept-ascends : (index : DependIndex) (es : List Entry) → IsIndexOf index es → (t : ListKey) → IsAscending (kept index t)
kept-ascends index es is t = subst (λ (l : List ℕ). IsAscending l) (sym (is.lists t)) (ascending (is_listed_for t) es)

pub kept-short : (index : DependIndex) (es : List Entry) → IsIndexOf index es → (t : ListKey) → length (kept index t) < 131072
kept-short index es is t = let few = index.few in grind (arith, positions-number, count_by-le-length (is_listed_for t) es)

-- a step depends on those of its actor, and on those that interfere with its access
pub depends-some : (x y : Entry) (p : Place) → x.place ≡ Some p → depends x y ≡ (is_listed_for (By x.event.actor) y || interfere (Some p) x.wrote y.place y.wrote)
depends-some x y p h = ap (λ (o : Option Place). (x.event.actor == y.event.actor) || interfere o x.wrote y.place y.wrote) h

pub depends-none : (x y : Entry) → x.place ≡ None → is_listed_for (By x.event.actor) y ≡ depends x y
depends-none x y h = grind arith

-- What is written is touched

-- so looking at what is touched finds what is written too
under_either : (p : Place) (o : Option Place) (v : Wrote) → (overlaps_under p o || overlaps_under p (written o v)) ≡ overlaps_under p o
under_either p o v = grind arith

-- what the searches find

pub found_in : (index : DependIndex) (es : List Entry) → IsIndexOf index es → (t : ListKey) (k : ℕ) (r : Option ℕ)
    → (IsAscending (kept index t) → length (kept index t) < 131072 → r ≡ find (nat_lt k) (kept index t)) → r ≡ find (nat_lt k) (positions (is_listed_for t) es)
found_in index es is t k r found = found (kept-ascends index es is t) (kept-short index es is t) ∙ ap (find (nat_lt k)) (is.lists t)

-- whether an access to place p that wrote v of it interferes with this step
abbrev pub meets : Place → Wrote → Entry → Bool
meets p v y = interfere (Some p) v y.place y.wrote

-- whether a search finds this step for an access to place p that wrote v of it. Under the key of a
-- cell's value half it looks for touches if the access wrote that half, else for writes; under the
-- two other keys for touches if the access wrote anything, else for writes
abbrev pub looks : Place → Wrote → Entry → Bool
looks p v y =
    is_under_some (value_key_of_place p) (touched_or_written (not (is_value_written v)) y)
    || (is_under (search_key p) (touched_or_written (is_nothing v) y) || is_under_some (whole_key p) (touched_or_written (is_nothing v) y))

looked : (p : Place) (v : Wrote) (y : Entry) → looks p v y ≡ meets p v y
looked p v y = grind (arith, overlaps-keys, under_either)

-- a search without a key finds nothing
pub none_found : (k n : ℕ) (es : List Entry) → find (nat_lt k) (positions_from (λ y. false) n es) ≡ None
none_found k n [] = refl
none_found k n (x ∷ xs) = none_found k (n + 1) xs

-- the first of what is found under the three keys is the first step that interferes with the access
pub found_at : (p : Place) (v : Wrote) (k : ℕ) (es : List Entry) (value own whole both all : Option ℕ)
    → value ≡ find (nat_lt k) (positions (λ y. is_under_some (value_key_of_place p) (touched_or_written (not (is_value_written v)) y)) es)
    → own ≡ find (nat_lt k) (positions (λ y. is_under (search_key p) (touched_or_written (is_nothing v) y)) es)
    → whole ≡ find (nat_lt k) (positions (λ y. is_under_some (whole_key p) (touched_or_written (is_nothing v) y)) es)
    → both ≡ earlier own whole → all ≡ earlier value both → all ≡ find (nat_lt k) (positions (meets p v) es)
found_at p v k es value own whole both all a b c two three =
    let rest = λ (y : Entry). is_under (search_key p) (touched_or_written (is_nothing v) y) || is_under_some (whole_key p) (touched_or_written (is_nothing v) y) in
    let in_two : both ≡ find (nat_lt k) (positions rest es) = two ∙ (λ i. earlier (b i) (c i)) ∙ earlier-first _ _ rest (λ y. refl) k es in
    three ∙ (λ i. earlier (a i) (in_two i)) ∙ earlier-first _ rest (meets p v) (λ y. sym (looked p v y)) k es

pub found-with_place : (x : Entry) (p : Place) → x.place ≡ Some p → (k : ℕ) (es : List Entry)
    → earlier (find (nat_lt k) (positions (is_listed_for (By x.event.actor)) es)) (find (nat_lt k) (positions (meets p x.wrote) es))
    ≡ find (nat_lt k) (positions (depends x) es)
found-with_place x p h k es = earlier-first (is_listed_for (By x.event.actor)) (meets p x.wrote) (depends x) (λ y. depends-some x y p h) k es

pub found-without_place : (x : Entry) → x.place ≡ None → (k : ℕ) (es : List Entry)
    → find (nat_lt k) (positions (is_listed_for (By x.event.actor)) es) ≡ find (nat_lt k) (positions (depends x) es)
found-without_place x h k es = ap (find (nat_lt k)) (positions-same (is_listed_for (By x.event.actor)) (depends x) (λ y. depends-none x y h) 1 es)

-- if a later step of the actor is found, the step depends on one of the later entries
pub found_of_actor : (x : Entry) (k : ℕ) (es : List Entry) → is_some (find (nat_lt k) (positions (is_listed_for (By x.event.actor)) es)) ≡ true
    → is_some (find (nat_lt k) (positions (depends x) es)) ≡ true
found_of_actor x k es h =
    sym (ap is_some (earlier-first (is_listed_for (By x.event.actor)) (depends x) (depends x) (λ y. again (x.event.actor == y.event.actor) _) k es))
    ∙ there (find (nat_lt k) (positions (is_listed_for (By x.event.actor)) es)) (find (nat_lt k) (positions (depends x) es)) h
  where
    again : (a b : Bool) → (a || b) ≡ (a || (a || b))
    again a b = grind arith

    there : (o p : Option ℕ) → is_some o ≡ true → is_some (earlier o p) ≡ true
    there o p e = grind arith
