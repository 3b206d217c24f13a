-- Bookmarks as JSON values: an object with the name and the list of events.
use Rattle.std.specs.Prelude.{◌≡◌, ◌≤◌, ℕ, List, length, map, codes, Some, Vec}
use Rattle.std.specs.Global.{Global}
use Rattle.serde_json.specs.Data.{Data, string, array, object, Items, no_members, member}
use Rattle.rd_marks.specs.Names.{bytes_of}
use Rattle.rd_marks.specs.Rules.{HaveDifferentNames}
use Rattle.rd_marks.specs.NameBytes.{MOST_MARKS}
use Rattle.rd_marks.specs.BookState.{Mark}
use Rattle.rd_trace.specs.Numbers.{member_count, text_at}
use Rattle.rd_trace.specs.Spelled.{Gives, SpellEach, SpellEachAt, items_by}
use Rattle.rd_trace.specs.Events.{event_of, event_data}
use Rattle.rd_trace.specs.declared.bookmarks.SavedMark.{SavedMark}

-- a JSON value spells a bookmark: it is an object of two members, its name and the list of its
-- events
pub record SpellsMark (d : Data) (m : Mark) : Type 0 where
  pub members : member_count d ≡ Some 2
  pub name : text_at (codes "name") d ≡ Some (bytes_of m.name)
  pub events : SpellEachAt (Gives event_of) (codes "events") d m.events

-- the JSON values spell these bookmarks, one each; the bookmarks have different names, and there
-- are no more than a book may have
pub record SpellMarksOfBook (ds : Items) (ms : List Mark) : Type 0 where
  pub each : SpellEach SpellsMark ds ms
  pub names : HaveDifferentNames ms
  pub few : length ms ≤ MOST_MARKS

-- a bookmark that was read, as a bookmark of the model
abbrev pub saved_mark : SavedMark → Mark
saved_mark m = record { name = m.name; events = m.events.items }

-- the bookmarks that were read, as bookmarks of the model, in order
abbrev pub saved_marks : Vec SavedMark Global → List Mark
saved_marks marks = map saved_mark marks.items

-- the JSON value as which a bookmark is written
abbrev pub mark_data : Mark → Data
mark_data m = object (
    member (codes "events") (array (items_by event_data m.events))
    (member (codes "name") (string (bytes_of m.name)) no_members))
