-- How the nodes and their entries come through a change of the stretches.
use Rattle.std.specs.Prelude.{◌≡◌, ◌==◌, if◌then◌else◌, nat_le, ℕ, suc, ◌-◌, ◌<◌, ◌≤◌, ◌^◌, List, [], ◌∷◌, ◌++◌, map, drop, length}
use Rattle.rd_step.specs.declared.entries.Entry.{Entry}
use Rattle.rd_marks.specs.declared.stretches.Node.{Node}
use Rattle.rd_marks.specs.declared.stretches.Stretch.{Stretch}
use Rattle.rd_marks.specs.declared.stretches.changes.Grown.{Grown}
use Rattle.rd_marks.specs.declared.stretches.changes.Shift.{Shift}
use Rattle.rd_marks.specs.declared.stretches.changes.Shift.TheVariants.{Same, Up, Down}
use Rattle.rd_marks.specs.Stretches.{entries_at, needed_at, IsWithin, AreNeeded, AreNeededFrom}

-- the node that has the same entries after a stretch was inserted with number j; a node without
-- entries stays as it is
abbrev pub after_insertion : ℕ → Node → Node
after_insertion j p = if p.number == 0 then p else if nat_le j p.stretch then record { stretch = suc p.stretch; number = p.number } else p

-- the node that has the same entries after the j-th stretch was removed, if the node had none of
-- that stretch's own entries
abbrev pub after_removal : ℕ → Node → Node
after_removal j p = if nat_le j p.stretch then record { stretch = p.stretch - 1; number = p.number } else p

-- the node after the stretches were renumbered so: not at all (`Same`), because one was inserted
-- with number i (`Up`), or because the i-th was removed (`Down`)
abbrev pub shifted : Shift → Node → Node
shifted Same p = p
shifted (Up i) p = after_insertion i p
shifted (Down i) p = after_removal i p

-- the node has no entries, or its stretch's number is below 2^64 - 1 and so can grow by 1
abbrev pub CanShiftUp : Node → Type 0
CanShiftUp p = 0 < p.number → suc p.stretch < 2 ^ 64

-- the node, renumbered as `shift` says, is in the new stretches and has the entries that it had
pub record Stays (old new : List Stretch) (shift : Shift) (p : Node) : Type 0 where
  pub within : IsWithin new (shifted shift p)
  pub same : entries_at new (shifted shift p) ≡ entries_at old p

-- every node has the entries that it had, and nodes that needed all entries still need all
pub record KeepsEntries (old new : List Stretch) : Type 0 where
  pub stays : (p : Node) → IsWithin old p → Stays old new Same p
  pub needed : (nodes : List Node) → AreNeeded old nodes → AreNeeded new nodes

-- entries were added: `grown.node` is in the new stretches (`within`), and has the entries of `at`
-- and then the given ones after the first `at.number` (`put`). The stretch numbers of all old nodes
-- with entries can grow by 1 (`low`). Renumbered as `grown.shift` says, they have the entries that
-- they had. Nodes that needed all entries need all now, together with the new node
pub record IsGrown (old new : List Stretch) (at : Node) (entries : List Entry) (grown : Grown) : Type 0 where
  pub within : IsWithin new grown.node
  pub put : entries_at new grown.node ≡ entries_at old at ++ drop at.number entries
  pub low : (p : Node) → IsWithin old p → CanShiftUp p
  pub stays : (p : Node) → IsWithin old p → Stays old new grown.shift p
  pub needed : (nodes : List Node) → AreNeeded old nodes → AreNeeded new (map (shifted grown.shift) nodes ++ grown.node ∷ [])

-- the i-th stretch was cut to the first n entries of its list, or removed; there are still i
-- stretches or more. The stretch numbers of all old nodes with entries can grow by 1 (`low`).
-- Renumbered as `shift` says, they have the entries that they had, except those with more than n
-- entries of this stretch's list. If all entries after this stretch were needed, and n of its own
-- list, all entries from it on are needed now
pub record IsShrunk (old new : List Stretch) (i n : ℕ) (shift : Shift) : Type 0 where
  pub below : i ≤ length new
  pub low : (p : Node) → IsWithin old p → CanShiftUp p
  pub stays : (p : Node) → IsWithin old p → (p.stretch ≡ i → p.number ≤ n) → Stays old new shift p
  pub needed : (nodes : List Node) → AreNeededFrom (suc i) old nodes → n ≡ needed_at old nodes i → AreNeededFrom i new (map (shifted shift) nodes)
