-- The room of an index, from the capacities of its lists.
use Rattle.rd_depend.proofs.Prelude.{◌≡◌, ℕ, ◌+◌, ◌-◌, ◌<◌, ◌≤◌, Bool, true, cond, ap, List, [], ◌∷◌, length, arith, Entry, DependIndex, Key, list_at, kept_in, capacity_at, ListKey, is_listed_for, count_by, kept, capacity, spare, IsIndexOf, HasRoomFor, UsesRoom, capacity_in}
use Rattle.rd_depend.proofs.IndexPositions.{count_by-cons, positions-number}

-- what holds of each actor's list and of each key's list holds of all lists
pub each : (old new : DependIndex) (R : List ℕ → List ℕ → Type 0) → ((i : ℕ) → R (list_at old.by_actor.items i) (list_at new.by_actor.items i))
    → ((w : Bool) (q : Key) → R (kept_in old.by_key w q) (kept_in new.by_key w q)) → (t : ListKey) → R (kept old t) (kept new t)
each old new R of_actors of_keys t = grind arith

pub each_capacity : (old new : DependIndex) → ((i : ℕ) → capacity_at new.by_actor.items i ≡ capacity_at old.by_actor.items i)
    → ((w : Bool) (q : Key) → capacity_in new.by_key w q ≡ capacity_in old.by_key w q) → (t : ListKey) → capacity new t ≡ capacity old t
each_capacity old new of_actors of_keys t = grind arith

-- no list has more positions than it can have
kept-within_capacity : (index : DependIndex) (t : ListKey) → length (kept index t) ≤ capacity index t
kept-within_capacity index t = grind arith

spare_is : (index : DependIndex) (t : ListKey) → spare index t ≡ capacity index t - length (kept index t)
spare_is index t = grind arith

-- if the capacities are as before, an index has as much more room as it has fewer positions
pub room_stays : (old new : DependIndex) (es fs : List Entry) → IsIndexOf old es → IsIndexOf new fs → ((t : ListKey) → capacity new t ≡ capacity old t)
    → (t : ListKey) → spare new t + count_by (is_listed_for t) fs ≡ spare old t + count_by (is_listed_for t) es
room_stays old new es fs was is stays t = grind (arith, spare_is, positions-number, kept-within_capacity)

-- room for an entry and others is room for the entry
pub room_for_first : (index : DependIndex) (x : Entry) (rest : List Entry) → HasRoomFor index (x ∷ rest) → (t : ListKey) → is_listed_for t x ≡ true → 0 < spare index t
room_for_first index x rest has t h = omega (arith, count_by-cons (is_listed_for t) x rest, has.lists t, ap {B = ℕ} (λ (b : Bool). cond b 1 0) h)

-- room for an entry and others is room for the others once the entry has used its own
pub room_left : (old new : DependIndex) (x : Entry) → UsesRoom old new (x ∷ []) → (rest : List Entry) → HasRoomFor old (x ∷ rest) → HasRoomFor new rest
room_left old new x used rest has = record { lists = λ t. omega (arith, count_by-cons (is_listed_for t) x rest, has.lists t, used t) }
