-- How the calls of an index change its lists.
use Rattle.std.specs.Prelude.{◌≡◌, ◌+◌, ◌≤◌, ◌<◌, not, cond, if◌then◌else◌, [], ◌∷◌, ◌++◌}
use Rattle.rd_step.specs.Prelude.{is_nothing}
use Rattle.rd_step.specs.declared.entries.Entry.{Entry}
use Rattle.rd_depend.specs.declared.index.DependIndex.{DependIndex}
use Rattle.rd_depend.specs.declared.index.changing.EntryKeys.{EntryKeys}
use Rattle.rd_depend.specs.declared.index.changing.KeyRows.{KeyRows}
use Rattle.rd_depend.specs.Index.{ListKey, is_listed_for, kept, spare, position_count}
use Rattle.rd_depend.specs.Keys.{place_key, value_key, segment_key, is_value_written}
use Rattle.rd_depend.specs.Tables.{spare_at, IsReadyIfSome}

-- the index got this entry at the next position: each list that is to keep it has that position at
-- its end and lost room for at most one. The other lists have the positions that they had, and lost
-- no room
pub record Adds (x : Entry) (old new : DependIndex) : Type 0 where
  pub lists : (t : ListKey) → kept new t ≡ (if is_listed_for t x then kept old t ++ (position_count old + 1) ∷ [] else kept old t)
  pub room : (t : ListKey) → spare old t ≤ spare new t + cond (is_listed_for t x) 1 0
  pub len : position_count new ≡ position_count old + 1

-- the lists and the number of positions are as before, and no list lost room
pub record KeepsPositions (old new : DependIndex) : Type 0 where
  pub lists : (t : ListKey) → kept new t ≡ kept old t
  pub room : (t : ListKey) → spare old t ≤ spare new t
  pub len : position_count new ≡ position_count old

-- the keys under which an entry is kept, each with whether it is kept there among those that wrote
abbrev pub entry_keys : Entry → EntryKeys
entry_keys x = record {
  place = record { key = place_key x.place; wrote = not (is_nothing x.wrote) };
  value = record { key = value_key x.place; wrote = is_value_written x.wrote };
  segment = record { key = segment_key x.place; wrote = not (is_nothing x.wrote) };
}

-- the list of the entry's actor, and those that are to keep the entry under the keys `homes`, have
-- room for one more position; these keys have the rows `rows` in the table, none where there is no
-- key
pub record IsReadyFor (index : DependIndex) (x : Entry) (homes : EntryKeys) (rows : KeyRows) : Type 0 where
  pub actor : 0 < spare_at index.by_actor.items x.event.actor
  pub place : IsReadyIfSome index.by_key homes.place.key homes.place.wrote rows.place
  pub value : IsReadyIfSome index.by_key homes.value.key homes.value.wrote rows.value
  pub segment : IsReadyIfSome index.by_key homes.segment.key homes.segment.wrote rows.segment
