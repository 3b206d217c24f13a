-- How a book keeps its bookmarks: each name has the node of its entries, which are those of a run
-- from the session's start, and every entry that is kept is needed by some bookmark.
use Rattle.std.specs.Prelude.{◌≡◌, ℕ, ◌≤◌, List, map, length}
use Rattle.std.specs.List.{All}
use Rattle.rd_step.specs.Prelude.{World, MOST_STEPS}
use Rattle.rd_step.specs.declared.entries.Entry.{Entry}
use Rattle.rd_equivalence.specs.Beginnings.{Begins}
use Rattle.rd_journal.specs.Journal.{IsRunFrom}
use Rattle.rd_marks.specs.declared.names.MarkName.{MarkName}
use Rattle.rd_marks.specs.declared.stretches.Node.{Node}
use Rattle.rd_marks.specs.declared.stretches.Stretch.{Stretch}
use Rattle.rd_marks.specs.NameBytes.{MOST_MARKS}
use Rattle.rd_marks.specs.Stretches.{entries_at, IsWithin, AreNeeded, AreNeededFrom}

-- there are at most MOST_STEPS entries, and they are those of the run of their events from the
-- start
pub record AreEntriesOfRun (start : World) (entries : List Entry) : Type 0 where
  pub few : length entries ≤ MOST_STEPS
  pub ran : IsRunFrom start entries

-- each name with the entries of its node
abbrev pub named_entries : List Stretch → List (MarkName × Node) → List (MarkName × List Entry)
named_entries ss names = map (λ m. (m.0, entries_at ss m.1)) names

-- for each name, there are at most MOST_STEPS entries, which are those of a run from the start
abbrev pub AreRuns : World → List (MarkName × List Entry) → Type 0
AreRuns start lists = All (λ l. AreEntriesOfRun start l.1) lists

-- the node of each name, in order
abbrev pub nodes_of : List (MarkName × Node) → List Node
nodes_of names = map (λ m. m.1) names

-- there are at most MOST_MARKS names (`few`); the stretches have the entries of each name's node
-- (`within`) and of `here` (`lies`); every entry is needed by some name (`needed`)
pub record IsKept (ss : List Stretch) (names : List (MarkName × Node)) (here : Node) : Type 0 where
  pub few : length names ≤ MOST_MARKS
  pub within : All (λ m. IsWithin ss m.1) names
  pub needed : AreNeeded ss (nodes_of names)
  pub lies : IsWithin ss here

-- the stretches from number `from` on were cut to what is needed. The names have the entries that
-- they had, though at other nodes (`left`). The node `here` became `there`, whose entries begin
-- those that it had
pub record IsPruned (from : ℕ) (old new : List Stretch) (names left : List (MarkName × Node)) (here there : Node) : Type 0 where
  pub lists : named_entries new left ≡ named_entries old names
  pub within : All (λ m. IsWithin new m.1) left
  pub needed : AreNeededFrom from new (nodes_of left)
  pub lies : IsWithin new there
  pub begins : Begins (entries_at new there) (entries_at old here)
