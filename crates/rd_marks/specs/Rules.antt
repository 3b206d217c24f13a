-- The rules that the bookmarks of every book keep: there are at most MOST_MARKS, their names
-- differ, and the events of each can run from the start.
use Rattle.std.specs.Prelude.{◌≤◌, List, map, length, IsOk}
use Rattle.std.specs.List.{AllByRecursion, IsDistinct}
use Rattle.rd_step.specs.Prelude.{World, run, MOST_STEPS}
use Rattle.rd_step.specs.declared.entries.Event.{Event}
use Rattle.rd_marks.specs.NameBytes.{MOST_MARKS}
use Rattle.rd_marks.specs.Names.{mark_name_eq}
use Rattle.rd_marks.specs.BookState.{Mark, BookState}

-- there are at most MOST_STEPS events, and they run from the start without a refusal
pub record CanRun (start : World) (events : List Event) : Type 0 where
  pub few : length events ≤ MOST_STEPS
  pub runs : IsOk (run start events)

-- the events of each mark can run from the start
abbrev pub MarksCanRun : World → List Mark → Type 0
MarksCanRun start ms = AllByRecursion (λ m. CanRun start m.events) ms

-- no two marks have the same name
abbrev pub HaveDifferentNames : List Mark → Type 0
HaveDifferentNames ms = IsDistinct mark_name_eq (map (λ m. m.name) ms)

-- the rules that the marks of a book keep: there are at most MOST_MARKS (`few`), their names differ
-- (`names`), and the events of each can run from the start (`through`)
pub record KeepsRules (b : BookState) : Type 0 where
  pub few : length b.marks ≤ MOST_MARKS
  pub names : HaveDifferentNames b.marks
  pub through : MarksCanRun b.session.start b.marks
