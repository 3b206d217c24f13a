-- Lists of positions, each known by its number, from 0; what the table of keys keeps in them; and
-- how its calls change them. For each key the table has two lists: one of all positions, and one of
-- the positions of steps that wrote there. A bit `only_writes` says which list is meant: the second
-- if it is true. A bit `wrote` says whether the step at hand wrote there.
use Rattle.std.specs.Prelude.{◌≡◌, ℕ, ◌+◌, ◌-◌, ◌<◌, ◌≤◌, Bool, true, false, ◌&&◌, cond, if◌then◌else◌, List, [], ◌∷◌, ◌++◌, length, take, Option, Some, None, Vec, slice_get, vec_capacity, nat_lt}
use Rattle.std.specs.Option.{option_map_or}
use Rattle.std.specs.List.{before_first}
use Rattle.std.specs.declared.alloc.Global.{Global}
use Rattle.rd_depend.specs.declared.index.keys.Key.{Key}
use Rattle.rd_depend.specs.declared.index.table.Table.{Table}
use Rattle.rd_depend.specs.declared.index.table.Among.{Among}
use Rattle.rd_depend.specs.declared.index.table.Among.TheVariants as among
use Rattle.rd_depend.specs.Keys.{some_key_eq, row_in}
use Rattle.rd_depend.specs.Lists.{IsAscending, IsMoved}

-- lists of positions, each known by its number
abbrev pub Lists : Type 0
Lists = List (Vec ℕ Global)

-- the items of a list; none if there is no list
abbrev pub items_of : {X : Type 0} → Option (Vec X Global) → List X
items_of o = option_map_or (λ list. list.items) o []

-- the items of the list of this number; none if there is no such list
abbrev pub list_at : {X : Type 0} → List (Vec X Global) → ℕ → List X
list_at lists i = items_of (slice_get lists i)

-- the number of positions that the list of this number can have before it has to grow; 0 if there
-- is no such list
abbrev pub capacity_at : Lists → ℕ → ℕ
capacity_at lists i = option_map_or vec_capacity (slice_get lists i) 0

-- the number of positions for which the list of this number has room left
abbrev pub spare_at : Lists → ℕ → ℕ
spare_at lists i = capacity_at lists i - length (list_at lists i)

-- the number of positions for which a list has room left
abbrev pub vec_spare : Vec ℕ Global → ℕ
vec_spare list = vec_capacity list - length list.items

-- the positions of the list of this number; none without a number
abbrev pub some_list_at : Lists → Option ℕ → List ℕ
some_list_at lists None = []
some_list_at lists (Some i) = list_at lists i

-- the number of positions that the list of this number can have before it has to grow; 0 without a
-- number
abbrev pub some_capacity_at : Lists → Option ℕ → ℕ
some_capacity_at lists None = 0
some_capacity_at lists (Some i) = capacity_at lists i

-- whether only the positions of the steps that wrote are meant
abbrev pub is_writes : Among → Bool
is_writes among.Touches = false
is_writes among.Writes = true

-- a table's lists of all positions; if the bit is true, its lists of the positions of steps that
-- wrote
abbrev pub lists_of : Table → Bool → Lists
lists_of t false = t.all.items
lists_of t true = t.writes.items

-- the positions kept under a key; if the bit is true, only those of steps that wrote. There are
-- none if the key isn't in the table
abbrev pub kept_in : Table → Bool → Key → List ℕ
kept_in t only_writes k = some_list_at (lists_of t only_writes) (row_in t.keys.keys k)

-- the number of positions that this one of a key's two lists can have before it has to grow; 0 if
-- the key isn't in the table
abbrev pub capacity_in : Table → Bool → Key → ℕ
capacity_in t only_writes k = some_capacity_at (lists_of t only_writes) (row_in t.keys.keys k)

-- the number of positions for which this one of a key's two lists has room left; 0 if the key isn't
-- in the table
abbrev pub spare_in : Table → Bool → Key → ℕ
spare_in t only_writes k = capacity_in t only_writes k - length (kept_in t only_writes k)

-- whether one of a key's two lists keeps a step: the list of all positions always does, the list of
-- writes (if the first bit, `only_writes`, is true) only if the step wrote (the second bit)
abbrev pub is_kept_in : Bool → Bool → Bool
is_kept_in false wrote = true
is_kept_in true wrote = wrote

-- the key has this row, and each of its lists that is to keep the step has room for one more
-- position
pub record IsReady (t : Table) (k : Key) (wrote : Bool) (i : ℕ) : Type 0 where
  pub at : row_in t.keys.keys k ≡ Some i
  pub room : (only_writes : Bool) → is_kept_in only_writes wrote ≡ true → 0 < spare_in t only_writes k

-- the key has this row, and its lists have room for the step; or there is neither a key nor a row
abbrev pub IsReadyIfSome : Table → Option Key → Bool → Option ℕ → Type 0
IsReadyIfSome t None wrote o = o ≡ None
IsReadyIfSome t (Some k) wrote o = (i : ℕ) × (o ≡ Some i) × IsReady t k wrote i

-- each of the key's lists that keep such a step has a position; this always holds without a key
abbrev pub HasLast : Table → Option Key → Bool → Type 0
HasLast t o wrote = (only_writes : Bool) (k : Key) → o ≡ Some k → is_kept_in only_writes wrote ≡ true → 1 ≤ length (kept_in t only_writes k)

-- the lists are as before, no room was lost, and the keys that were there have their old rows
pub record KeepsLists (old new : Table) : Type 0 where
  pub lists : (only_writes : Bool) (k : Key) → kept_in new only_writes k ≡ kept_in old only_writes k
  pub room : (only_writes : Bool) (k : Key) → spare_in old only_writes k ≤ spare_in new only_writes k
  pub rows : (k : Key) (i : ℕ) → row_in old.keys.keys k ≡ Some i → row_in new.keys.keys k ≡ Some i

-- the position was put at the end of those of the key's lists that are to keep the step, which lost
-- room for at most one. The other lists, or all without a key, are as before and lost no room. The
-- keys have their old rows
pub record Puts (k : Option Key) (wrote : Bool) (position : ℕ) (old new : Table) : Type 0 where
  pub lists : (only_writes : Bool) (q : Key) → kept_in new only_writes q ≡ (if is_kept_in only_writes wrote && some_key_eq q k then kept_in old only_writes q ++ position ∷ [] else kept_in old only_writes q)
  pub room : (only_writes : Bool) (q : Key) → spare_in old only_writes q ≤ spare_in new only_writes q + cond (is_kept_in only_writes wrote && some_key_eq q k) 1 0
  pub rows : (q : Key) → row_in new.keys.keys q ≡ row_in old.keys.keys q

-- those of the key's lists that keep the step lost their last position and have room for one more;
-- the other lists, or all without a key, are as before
pub record RemovesLast (k : Option Key) (wrote : Bool) (old new : Table) : Type 0 where
  pub lists : (only_writes : Bool) (q : Key) → kept_in new only_writes q ≡ (if is_kept_in only_writes wrote && some_key_eq q k then take (length (kept_in old only_writes q) - 1) (kept_in old only_writes q) else kept_in old only_writes q)
  pub room : (only_writes : Bool) (q : Key) → spare_in new only_writes q ≡ spare_in old only_writes q + cond (is_kept_in only_writes wrote && some_key_eq q k) 1 0

-- in each list that ascends, k became n, if it was there, and the positions above k up to n became
-- one less; the capacities are as before
pub record Moves (k n : ℕ) (old new : Table) : Type 0 where
  pub lists : (only_writes : Bool) (q : Key) → IsAscending (kept_in old only_writes q) → IsMoved k n (kept_in old only_writes q) (kept_in new only_writes q)
  pub capacity : (only_writes : Bool) (q : Key) → capacity_in new only_writes q ≡ capacity_in old only_writes q

-- each list that ascends lost its positions above n; the capacities are as before
pub record Cuts (n : ℕ) (old new : Table) : Type 0 where
  pub lists : (only_writes : Bool) (q : Key) → IsAscending (kept_in old only_writes q) → kept_in new only_writes q ≡ before_first (nat_lt n) (kept_in old only_writes q)
  pub capacity : (only_writes : Bool) (q : Key) → capacity_in new only_writes q ≡ capacity_in old only_writes q
