-- How the entries of the bookmarks are kept: by front coding. Each stretch stands for a list of
-- entries: it keeps the number of entries that its list shares with the list of the stretch before
-- it, and the entries after these. Stretches are counted from 0.
use Rattle.std.specs.Prelude.{◌≡◌, ◌==◌, if◌then◌else◌, ℕ, zero, suc, ◌+◌, ◌<◌, ◌≤◌, max, List, [], ◌∷◌, ◌++◌, length, take}
use Rattle.rd_step.specs.Prelude.{MOST_STEPS}
use Rattle.rd_step.specs.Run.{events}
use Rattle.rd_step.specs.declared.entries.Event.{Event}
use Rattle.rd_step.specs.declared.entries.Entry.{Entry}
use Rattle.rd_marks.specs.declared.stretches.Stretch.{Stretch}
use Rattle.rd_marks.specs.declared.stretches.Node.{Node}

-- the list of a stretch: the entries that it shares with the list before it (`before`), then its
-- own
abbrev pub continued : List Entry → Stretch → List Entry
continued before s = take s.shared before ++ s.entries.items

-- the list of the i-th of these stretches, counted from 0, where `before` is the list before the
-- first one; empty if there is no i-th stretch
abbrev pub list_from : List Entry → List Stretch → ℕ → List Entry
list_from before [] i = []
list_from before (s ∷ ss) zero = continued before s
list_from before (s ∷ ss) (suc i) = list_from (continued before s) ss i

-- the list of the i-th stretch, counted from 0; empty if there is none
abbrev pub stretch_list : List Stretch → ℕ → List Entry
stretch_list ss i = list_from [] ss i

-- the list of the stretch before the i-th one; empty if there is none
abbrev pub list_before : List Stretch → ℕ → List Entry
list_before ss zero = []
list_before ss (suc i) = stretch_list ss i

-- the number of entries that the list of the i-th stretch shares with the list before it; 0 if
-- there is no i-th stretch
abbrev pub shared_at : List Stretch → ℕ → ℕ
shared_at [] i = 0
shared_at (s ∷ ss) zero = s.shared
shared_at (s ∷ ss) (suc i) = shared_at ss i

-- the entries of a node: the first ones of its stretch's list, as many as its number says
abbrev pub entries_at : List Stretch → Node → List Entry
entries_at ss p = take p.number (stretch_list ss p.stretch)

-- the list of the node's stretch has at least as many entries as the node's number says
abbrev pub IsWithin : List Stretch → Node → Type 0
IsWithin ss p = p.number ≤ length (stretch_list ss p.stretch)

-- the node's stretch exists, and the node has all entries of its list
pub record IsEnd (ss : List Stretch) (p : Node) : Type 0 where
  pub there : p.stretch < length ss
  pub all : p.number ≡ length (stretch_list ss p.stretch)

-- the last entry of the node is its stretch's own, or the node is in the first stretch
abbrev pub IsCanonical : List Stretch → Node → Type 0
IsCanonical ss p = 0 < p.stretch → shared_at ss p.stretch < p.number

-- each stretch shares no more entries than the list before it has (`within`), and has at least one
-- of its own (`some`); no list has more than MOST_STEPS entries (`few`)
pub record AreNested (ss : List Stretch) : Type 0 where
  pub within : (i : ℕ) → i < length ss → shared_at ss i ≤ length (list_before ss i)
  pub some : (i : ℕ) → i < length ss → shared_at ss i < length (stretch_list ss i)
  pub few : (i : ℕ) → i < length ss → length (stretch_list ss i) ≤ MOST_STEPS

-- there are at least n of these events, and the list of the i-th stretch begins with the first n
pub record AgreesFor (ss : List Stretch) (i n : ℕ) (es : List Event) : Type 0 where
  pub enough : n ≤ length es
  pub alike : take n (events (stretch_list ss i)) ≡ take n es

-- no earlier list begins with the events that a stretch's list shares and the first event of its
-- own
abbrev pub AreFresh : List Stretch → Type 0
AreFresh ss = (i j : ℕ) → j < i → i < length ss → AgreesFor ss i (suc (shared_at ss i)) (events (stretch_list ss j)) → ⊥

-- the number of entries of a node if it is in the i-th stretch, otherwise 0
abbrev pub node_len_in_stretch : ℕ → Node → ℕ
node_len_in_stretch i p = if p.stretch == i then p.number else 0

-- the greatest number of entries among the nodes in the i-th stretch; 0 if none is there
abbrev pub greatest_len_in_stretch : ℕ → List Node → ℕ
greatest_len_in_stretch i [] = 0
greatest_len_in_stretch i (p ∷ ps) = max (node_len_in_stretch i p) (greatest_len_in_stretch i ps)

-- the number of entries of the i-th stretch's list that are needed, because the next stretch shares
-- them or a node has them
abbrev pub needed_at : List Stretch → List Node → ℕ → ℕ
needed_at ss nodes i = max (shared_at ss (suc i)) (greatest_len_in_stretch i nodes)

-- every entry of the lists of the k-th stretch and of later ones is needed
abbrev pub AreNeededFrom : ℕ → List Stretch → List Node → Type 0
AreNeededFrom k ss nodes = (i : ℕ) → k ≤ i → i < length ss → length (stretch_list ss i) ≤ needed_at ss nodes i

-- every entry of every stretch's list is needed
abbrev pub AreNeeded : List Stretch → List Node → Type 0
AreNeeded ss nodes = AreNeededFrom 0 ss nodes

-- no stretch's list begins with the first n + 1 of these events; this also holds if there are fewer
abbrev pub IsDeepest : List Stretch → ℕ → List Event → Type 0
IsDeepest ss n es = (i : ℕ) → i < length ss → AgreesFor ss i (suc n) es → ⊥

-- the number of entries that the stretches keep, all together
abbrev pub entry_count : List Stretch → ℕ
entry_count [] = 0
entry_count (s ∷ ss) = length s.entries.items + entry_count ss

-- the entries of a node after the first n lie in more than one stretch: a node `at` has the same
-- entries as this one, the last of them is its stretch's own (`own`), and its stretch shares more
-- than n of them with the list before it (`shares`)
pub record AreInPieces (ss : List Stretch) (p : Node) (n : ℕ) : Type 0 where
  pub at : Node
  pub same : entries_at ss at ≡ entries_at ss p
  pub own : IsCanonical ss at
  pub shares : n < shared_at ss at.stretch

-- n is the length of the longest common prefix of two lists of events: both begin with the same n
-- events (`alike`), and with no more than n (`most`)
pub record IsCommonLen (n : ℕ) (es fs : List Event) : Type 0 where
  pub first : n ≤ length es
  pub second : n ≤ length fs
  pub alike : take n es ≡ take n fs
  pub most : (m : ℕ) → m ≤ length es → m ≤ length fs → take m es ≡ take m fs → m ≤ n

-- to go from these live events to those of a node, entries must be copied: the entries of the node
-- after the longest common prefix, of length `kept`, lie in more than one stretch
pub record NeedsCopy (ss : List Stretch) (p : Node) (live : List Event) : Type 0 where
  pub kept : ℕ
  pub common : IsCommonLen kept live (events (entries_at ss p))
  pub pieces : AreInPieces ss p kept
