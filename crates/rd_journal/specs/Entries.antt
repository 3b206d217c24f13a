-- The entries of a session as two lists, with their room.
use Rattle.std.specs.Prelude.{ℕ, List, ◌++◌, take, drop, min, vec_capacity}
use Rattle.rd_step.specs.declared.entries.Entry.{Entry}
use Rattle.rd_journal.specs.declared.entries.Entries.{Entries}
use Rattle.rd_journal.specs.Numbers.{at_numbers}

-- all entries, in the order in which their numbers are listed: first of the live steps, then of the
-- steps ahead of them, then the discarded ones
unfoldable pub all_entries : Entries → List Entry
all_entries r = at_numbers r.slab.items r.order.items

-- the entries of the live steps, in their order
abbrev pub live_entries : Entries → List Entry
live_entries r = take r.live (all_entries r)

-- the entries of the steps ahead of the live ones: first of the undone steps, the one undone last
-- in front, then of the steps that the session went back over
abbrev pub ahead_entries : Entries → List Entry
ahead_entries r = take r.ahead (drop r.live (all_entries r))

-- the entries of the live steps and, after them, of the steps ahead
abbrev pub kept_entries : Entries → List Entry
kept_entries r = live_entries r ++ ahead_entries r

-- the number of entries, live and ahead together, for which each of the three lists has room
abbrev pub entries_capacity : Entries → ℕ
entries_capacity r = min (vec_capacity r.slab) (min (vec_capacity r.order) (vec_capacity r.gathered))
