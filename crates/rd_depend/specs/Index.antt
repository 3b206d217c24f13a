-- What an index keeps of a list of entries: for each actor the positions of its entries, and for
-- each place and each segment the positions of the entries that touched it. A second list has the
-- positions of those that wrote there.
use Rattle.std.specs.Prelude.{◌≡◌, ℕ, ◌+◌, ◌≤◌, Bool, true, false, ◌==◌, if◌then◌else◌, List, [], ◌∷◌, ◌++◌, length, Option, Some}
use Rattle.std.specs.List.{count_by}
use Rattle.rd_step.specs.Prelude.{Place, written}
use Rattle.rd_step.specs.declared.entries.Entry.{Entry}
use Rattle.rd_step.specs.Lists.{numbered}
use Rattle.rd_depend.specs.declared.index.DependIndex.{DependIndex}
use Rattle.rd_depend.specs.declared.index.keys.Key.{Key}
use Rattle.rd_depend.specs.Keys.{is_under}
use Rattle.rd_depend.specs.Tables.{list_at, capacity_at, spare_at}
use Rattle.rd_depend.specs.Tables.{kept_in, capacity_in, spare_in}

-- what a list of positions is kept for: the steps of an actor, or the steps under a key, either all
-- of them or, if the bit is true, only those that wrote there
pub data ListKey : Type 0 where
  By : ℕ → ListKey
  Under : Bool → Key → ListKey

-- the place that an entry's step touched, if there is one; or, if the bit is true, the place that
-- names what it wrote, if it wrote anything
abbrev pub touched_or_written : Bool → Entry → Option Place
touched_or_written false x = x.place
touched_or_written true x = written x.place x.wrote

-- whether an entry is to be kept in the list for this actor or key
abbrev pub is_listed_for : ListKey → Entry → Bool
is_listed_for (By a) x = a == x.event.actor
is_listed_for (Under w k) x = is_under k (touched_or_written w x)

-- the positions of the entries that pass the test, if the first entry is at position n
abbrev pub positions_from : (Entry → Bool) → ℕ → List Entry → List ℕ
positions_from test n [] = []
positions_from test n (x ∷ xs) = if test x then n ∷ positions_from test (n + 1) xs else positions_from test (n + 1) xs

-- the positions of the entries that pass the test, counted from 1
abbrev pub positions : (Entry → Bool) → List Entry → List ℕ
positions test entries = positions_from test 1 entries

-- the positions that the index keeps in the list for this actor or key
abbrev pub kept : DependIndex → ListKey → List ℕ
kept index (By a) = list_at index.by_actor.items a
kept index (Under w k) = kept_in index.by_key w k

-- the number of positions for which the list for this actor or key has room left
abbrev pub spare : DependIndex → ListKey → ℕ
spare index (By a) = spare_at index.by_actor.items a
spare index (Under w k) = spare_in index.by_key w k

-- the number of positions that the index has
abbrev pub position_count : DependIndex → ℕ
position_count index = index.len

-- the index is that of these entries: each list has just the positions of the entries that it is to
-- keep, and there is one position for each entry
pub record IsIndexOf (index : DependIndex) (entries : List Entry) : Type 0 where
  pub lists : (t : ListKey) → kept index t ≡ positions (is_listed_for t) entries
  pub len : position_count index ≡ length entries

-- each list has room for the positions of all of these entries that it is to keep
pub record HasRoomFor (index : DependIndex) (entries : List Entry) : Type 0 where
  pub lists : (t : ListKey) → count_by (is_listed_for t) entries ≤ spare index t

-- each list has room for the positions of all of the given entries that it is to keep, once the
-- positions of the entries in `gone` are removed
pub record HasRoomInstead (index : DependIndex) (gone given : List Entry) : Type 0 where
  pub lists : (t : ListKey) → count_by (is_listed_for t) given ≤ spare index t + count_by (is_listed_for t) gone

-- each list has as much room as before
abbrev pub HasSameRoom : DependIndex → DependIndex → Type 0
HasSameRoom old new = (t : ListKey) → spare new t ≡ spare old t

-- each list has at least as much room as before
abbrev pub KeepsRoom : DependIndex → DependIndex → Type 0
KeepsRoom old new = (t : ListKey) → spare old t ≤ spare new t

-- each list has room for as many more positions as it kept of these entries, which were removed
abbrev pub GivesRoom : DependIndex → DependIndex → List Entry → Type 0
GivesRoom old new gone = (t : ListKey) → spare new t ≡ spare old t + count_by (is_listed_for t) gone

-- each list lost room for at most as many positions as it keeps of the given entries
abbrev pub UsesRoom : DependIndex → DependIndex → List Entry → Type 0
UsesRoom old new given = (t : ListKey) → spare old t ≤ spare new t + count_by (is_listed_for t) given

-- the index is that of a list of entries that ends with these
pub record EndsWith (index : DependIndex) (last : List Entry) : Type 0 where
  pub before : List Entry
  pub is : IsIndexOf index (before ++ last)

-- the index is that of a list whose entry at position k, counted from 1, is this one
pub record HasEntryAt (index : DependIndex) (k : ℕ) (x : Entry) : Type 0 where
  pub entries : List Entry
  pub is : IsIndexOf index entries
  pub at : numbered entries k ≡ Some x

-- the index is that of some list of entries
pub record IsIndex (index : DependIndex) : Type 0 where
  pub entries : List Entry
  pub is : IsIndexOf index entries

-- the number of positions that the list for this actor or key can have before it has to grow
abbrev pub capacity : DependIndex → ListKey → ℕ
capacity index (By a) = capacity_at index.by_actor.items a
capacity index (Under w k) = capacity_in index.by_key w k
