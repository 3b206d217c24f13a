-- The table of keys: which key has which row, and what a change of the lists means for the keys.
use Rattle.rd_depend.proofs.Prelude.{nat_tests, slice_get-push_same, slice_get-push_other, Key, Table, key_eq, row_in, key_eq-true, key_eq-refl, key_eq-sym, Lists, list_at, spare_at, cond, some_list_at, some_capacity_at, lists_of, kept_in, spare_in, is_kept_in, IsReady, KeepsLists, Puts, RemovesLast, Moves, capacity_at, IsAscending, IsMoved, ◌≡◌, ℕ, suc, ◌+◌, ◌-◌, ◌<◌, ◌≤◌, Bool, true, false, ◌&&◌, ◌==◌, if◌then◌else◌, List, [], ◌∷◌, ◌++◌, length, get_or, take, Option, Some, None, slice_get, slice_get-get_or, option_map, Vec, refl, sym, ap, subst, ◌∙◌, arith, eqb-true, eq-eqb, list_any, IsDistinct, apart_from_distinct, Global}
use Rattle.rd_depend.proofs.IndexLists.{none_moved}
use Rattle.std.proofs.lemmas.List.Quantifiers.{position-Some}
use Rattle.std.specs.Cmp.{both_ways}

-- rows of keys

-- the key is in its row
pub row-there : (keys : List Key) (k : Key) (i : ℕ) → row_in keys k ≡ Some i → slice_get keys i ≡ Some k
unfolding row_in
row-there keys k i h = let at = position-Some (key_eq k) keys i k h in slice_get-get_or keys i k at.0 ∙ ap Some (sym (key_eq-true k (get_or keys i k) at.1))

pub row-within : (keys : List Key) (k : Key) (i : ℕ) → row_in keys k ≡ Some i → i < length keys
unfolding row_in
row-within keys k i h = (position-Some (key_eq k) keys i k h).0

row-nil : (k : Key) → row_in [] k ≡ None
unfolding row_in
row-nil k = refl

row-cons : (q : Key) (qs : List Key) (k : Key) → row_in (q ∷ qs) k ≡ (if key_eq k q then Some 0 else option_map suc (row_in qs k))
unfolding row_in
row-cons q qs k = grind (arith, nat_tests)

-- a key that is in a row has that row, since no key occurs twice
own-row : (ks : List Key) (j : ℕ) (d : Key) → IsDistinct key_eq ks → j < length ks → row_in ks (get_or ks j d) ≡ Some j
unfolding IsDistinct
own-row (q ∷ qs) (suc j) d s h =
    grind (arith, row-cons, key_eq-sym, apart_from_distinct key_eq (q ∷ qs) 0 (suc j) d s (omega arith) h, own-row qs j d s.1 (omega arith))
own-row ks j d s h = grind (arith, row-cons, key_eq-refl)

stands-row : (keys : List Key) (k : Key) (i : ℕ) (d : Key) → IsDistinct key_eq keys → i < length keys → k ≡ get_or keys i d → row_in keys k ≡ Some i
stands-row keys k i d distinct within at = ap (row_in keys) at ∙ own-row keys i d distinct within

-- the same for a key that is equal to the one in the row
pub key-row : (keys read : List Key) (k : Key) (i : ℕ) (d : Key) → read ≡ keys → IsDistinct key_eq keys → i < length read → key_eq (get_or read i d) k ≡ true
    → row_in keys k ≡ Some i
key-row keys read k i d same distinct within is = grind (arith, stands-row)

-- whether there is a row, and it is i
abbrev pub is_row : ℕ → Option ℕ → Bool
is_row i None = false
is_row i (Some j) = j == i

-- the keys with the row of k are those equal to k
pub row-same : (keys : List Key) (k q : Key) (i : ℕ) → row_in keys k ≡ Some i → is_row i (row_in keys q) ≡ key_eq q k
row-same keys k q i h = both_ways (is_row i (row_in keys q)) (key_eq q k) (to_key (row_in keys q) refl)
    (λ e. ap (λ (x : Key). is_row i (row_in keys x)) (key_eq-true q k e) ∙ ap (is_row i) h ∙ eq-eqb i i refl)
  where
    to_key : (o : Option ℕ) → row_in keys q ≡ o → is_row i o ≡ true → key_eq q k ≡ true
    to_key None e g = absurd cc
    to_key (Some j) e g =
        let same : j ≡ i = eqb-true j i g in
        let there : slice_get keys i ≡ Some q = subst (λ (n : ℕ). slice_get keys n ≡ Some q) same (row-there keys q j e) in
        let own : slice_get keys i ≡ Some k = row-there keys k i h in
        let one : q ≡ k = cc in
        subst (λ (x : Key). key_eq q x ≡ true) one (key_eq-refl q)

-- the number of positions for which the list in a row has room left
abbrev room_left : Lists → Option ℕ → ℕ
room_left lists o = some_capacity_at lists o - length (some_list_at lists o)

-- what the table's calls ask for

pub ready_room : (t : Table) (k : Key) (wrote : Bool) (i : ℕ) → IsReady t k wrote i → (w : Bool) → is_kept_in w wrote ≡ true → 0 < spare_at (lists_of t w) i
ready_room t k wrote i r w c = subst (λ (o : Option ℕ). 0 < room_left (lists_of t w) o) r.at (r.room w c)

pub last_there : (t : Table) (k : Key) (wrote : Bool) (i : ℕ) → row_in t.keys.keys k ≡ Some i → ((w : Bool) → is_kept_in w wrote ≡ true → 1 ≤ length (kept_in t w k))
    → (w : Bool) → is_kept_in w wrote ≡ true → 1 ≤ length (list_at (lists_of t w) i)
last_there t k wrote i row h w c = subst (λ (o : Option ℕ). 1 ≤ length (some_list_at (lists_of t w) o)) row (h w c)

pub spare_there : (t : Table) (k : Key) (w : Bool) (i : ℕ) → row_in t.keys.keys k ≡ Some i → 0 < spare_in t w k → 0 < spare_at (lists_of t w) i
spare_there t k w i row h = subst (λ (o : Option ℕ). 0 < room_left (lists_of t w) o) row h

-- a new key, with empty lists

pub absent : (keys : List Key) (k : Key) → row_in keys k ≡ None → list_any (key_eq k) keys ≡ false
absent [] k h = refl
absent (q ∷ qs) k h = grind (arith, row-cons, absent qs k)

-- the row, if there is one, else n if the bit is true
abbrev or_row : Option ℕ → Bool → ℕ → Option ℕ
or_row (Some i) b n = Some i
or_row None true n = Some n
or_row None false n = None

row_pushed : (keys : List Key) (k q : Key) → row_in (keys ++ k ∷ []) q ≡ or_row (row_in keys q) (key_eq q k) (length keys)
row_pushed [] k q = grind (arith, row-nil, row-cons)
row_pushed (x ∷ xs) k q = grind (arith, row-cons, row_pushed xs k q)

room_pushed : (keys : List Key) (k q : Key) (lists : Lists) (v : Vec ℕ Global) → length lists ≡ length keys
    → room_left lists (row_in keys q) ≤ room_left (lists ++ v ∷ []) (row_in (keys ++ k ∷ []) q)
room_pushed keys k q lists v len = grind (arith, row_pushed, row-within, slice_get-push_other)

pub keeps_pushed : (old new : Table) (k : Key) (v u : Vec ℕ Global) → new.keys.keys ≡ old.keys.keys ++ k ∷ []
    → new.all.items ≡ old.all.items ++ v ∷ [] → new.writes.items ≡ old.writes.items ++ u ∷ [] → v.items ≡ [] → u.items ≡ []
    → length old.all.items ≡ length old.keys.keys → length old.writes.items ≡ length old.keys.keys → KeepsLists old new
keeps_pushed old new k v u keys all writes none_v none_u in_all in_writes = grind (arith, row_pushed, row-within, slice_get-push_same, slice_get-push_other, room_pushed)

pub row_last : (keys new : List Key) (k : Key) (n : ℕ) → row_in keys k ≡ None → new ≡ keys ++ k ∷ [] → n ≡ length keys → row_in new k ≡ Some n
row_last keys new k n none h len = grind (arith, row_pushed)

-- the table's changes, from those of its lists

pub puts : (old new : Table) (k : Key) (wrote : Bool) (p i : ℕ) → new.keys.keys ≡ old.keys.keys
    → ((j : ℕ) → list_at new.all.items j ≡ (if j == i then list_at old.all.items j ++ p ∷ [] else list_at old.all.items j))
    → ((j : ℕ) → list_at new.writes.items j ≡ (if wrote && (j == i) then list_at old.writes.items j ++ p ∷ [] else list_at old.writes.items j))
    → ((j : ℕ) → spare_at old.all.items j ≤ spare_at new.all.items j + cond (j == i) 1 0)
    → ((j : ℕ) → spare_at old.writes.items j ≤ spare_at new.writes.items j + cond (wrote && (j == i)) 1 0)
    → row_in old.keys.keys k ≡ Some i → Puts (Some k) wrote p old new
puts old new k wrote p i keys all writes room_all room_writes row = record {
  lists = λ w q. let same = row-same old.keys.keys k q i row in grind arith;
  room = λ w q. let same = row-same old.keys.keys k q i row in grind arith;
  rows = λ q. ap (λ (ks : List Key). row_in ks q) keys;
}

pub removes_last : (old new : Table) (k : Key) (wrote : Bool) (i : ℕ) → new.keys.keys ≡ old.keys.keys
    → ((j : ℕ) → list_at new.all.items j ≡ (if j == i then take (length (list_at old.all.items j) - 1) (list_at old.all.items j) else list_at old.all.items j))
    → ((j : ℕ) → list_at new.writes.items j ≡ (if wrote && (j == i) then take (length (list_at old.writes.items j) - 1) (list_at old.writes.items j) else list_at old.writes.items j))
    → ((j : ℕ) → spare_at new.all.items j ≡ spare_at old.all.items j + cond (j == i) 1 0)
    → ((j : ℕ) → spare_at new.writes.items j ≡ spare_at old.writes.items j + cond (wrote && (j == i)) 1 0)
    → row_in old.keys.keys k ≡ Some i → RemovesLast (Some k) wrote old new
removes_last old new k wrote i keys all writes room_all room_writes row = record {
  lists = λ w q. let same = row-same old.keys.keys k q i row in grind arith;
  room = λ w q. let same = row-same old.keys.keys k q i row in grind arith;
}

pub moves : (old new : Table) (k n : ℕ) → new.keys.keys ≡ old.keys.keys → ((i : ℕ) → IsAscending (list_at old.all.items i) → IsMoved k n (list_at old.all.items i) (list_at new.all.items i))
    → ((i : ℕ) → IsAscending (list_at old.writes.items i) → IsMoved k n (list_at old.writes.items i) (list_at new.writes.items i)) → ((i : ℕ) → capacity_at new.all.items i ≡ capacity_at old.all.items i)
    → ((i : ℕ) → capacity_at new.writes.items i ≡ capacity_at old.writes.items i) → Moves k n old new
moves old new k n keys all writes room_all room_writes = grind (arith, none_moved)
