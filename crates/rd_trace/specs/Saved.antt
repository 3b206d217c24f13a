-- Whole sessions as JSON values and as texts: version 1, which is only read, and version 2, which
-- is read and written.
use Rattle.std.specs.Prelude.{◌≡◌, ◌⊎◌, ℕ, List, [], ◌∷◌, ◌++◌, map, codes, Some, IsUtf8}
use Rattle.serde_json.specs.Data.{Data, number, array, object, unsigned, Items, no_members, member}
use Rattle.serde_json.specs.Find.{get}
use Rattle.serde_json.specs.Read.{read}
use Rattle.serde_json.specs.Written.{compact_text}
use Rattle.rd_step.specs.declared.entries.Event.{Event}
use Rattle.rd_marks.specs.Names.{bytes_of}
use Rattle.rd_marks.specs.BookState.{Mark, BookState}
use Rattle.rd_trace.specs.Numbers.{member_count, number_at, items_at}
use Rattle.rd_trace.specs.Spelled.{Gives, SpellEachAt, items_by}
use Rattle.rd_trace.specs.Events.{event_of, event_data}
use Rattle.rd_trace.specs.Starts.{SpellsStart, HasActorCount, IsStartWrittenAs, start_world}
use Rattle.rd_trace.specs.Bookmarks.{SpellMarksOfBook, mark_data, saved_mark}
use Rattle.rd_trace.specs.Traces.{IsTraceRing}
use Rattle.rd_trace.specs.declared.starts.Start.{Start}
use Rattle.rd_trace.specs.declared.starts.Start.TheVariants as start
use Rattle.rd_trace.specs.declared.saved.SavedBook.{SavedBook}

-- a session over rings of R cells, as a trace spells it: its start; its bookmarks and its live
-- events, in order; and its undone events, the one undone last in front
pub record Trace (R : ℕ) : Type 0 where
  pub start : Start R
  pub marks : List Mark
  pub live : List Event
  pub undone : List Event

-- a session that was read, as a trace of the model
abbrev pub saved_trace : {R : ℕ} → SavedBook R → Trace R
saved_trace s = record { start = s.start; marks = map saved_mark s.marks.items; live = s.events.items; undone = s.undone.items }

-- the state of the book that a trace spells: the world of its start, and its live events, undone
-- events and bookmarks
abbrev pub loaded_state : {R : ℕ} → Trace R → BookState
loaded_state t = record {
  session = record { start = start_world t.start; live = t.live; undone = t.undone };
  marks = t.marks;
}

-- a bookmark as a trace spells it: the bytes of its name, and its events. Names with the same bytes
-- are equal, though their unused room may differ, which no call shows
abbrev pub name_bytes_and_events : Mark → List ℕ × List Event
name_bytes_and_events m = (bytes_of m.name, m.events)

-- two books are the same: they have the same session, and bookmarks with equal names and the same
-- events in the same order
pub record IsSameBook (a b : BookState) : Type 0 where
  pub session : a.session ≡ b.session
  pub marks : map name_bytes_and_events a.marks ≡ map name_bytes_and_events b.marks

-- a JSON value is a trace of version 1: an object of four members, which are the version, the size
-- of the rings, the number of actors of the fresh start, and the live events. The trace has no
-- bookmark and nothing undone
pub record IsVersion1 {R : ℕ} (d : Data) (t : Trace R) : Type 0 where
  pub members : member_count d ≡ Some 4
  pub version : number_at (codes "version") d ≡ Some 1
  pub ring : number_at (codes "ring") d ≡ Some R
  pub actors : (count : ℕ) × HasActorCount (codes "actors") d count × (t.start ≡ start.Fresh count)
  pub live : SpellEachAt (Gives event_of) (codes "events") d t.live
  pub marks : t.marks ≡ []
  pub undone : t.undone ≡ []

-- a JSON value is a trace of version 2: an object of six members, which are the version, the size
-- of the rings, the start, the bookmarks, the live events and the undone events
pub record IsVersion2 {R : ℕ} (d : Data) (t : Trace R) : Type 0 where
  pub members : member_count d ≡ Some 6
  pub version : number_at (codes "version") d ≡ Some 2
  pub ring : number_at (codes "ring") d ≡ Some R
  pub start : (e : Data) × (get (codes "start") d ≡ Some e) × SpellsStart e t.start
  pub marks : (ds : Items) × (items_at (codes "marks") d ≡ Some ds) × SpellMarksOfBook ds t.marks
  pub live : SpellEachAt (Gives event_of) (codes "events") d t.live
  pub undone : SpellEachAt (Gives event_of) (codes "undone") d t.undone

-- a JSON value is a trace of version 1 or 2, over rings of any size
abbrev pub IsEitherVersion : {R : ℕ} → Data → Trace R → Type 0
IsEitherVersion d t = IsVersion1 d t ⊎ IsVersion2 d t

-- a JSON value is a trace of version 1 or 2, over rings of 2, 4 or 8 cells
abbrev pub IsTrace : {R : ℕ} → Data → Trace R → Type 0
IsTrace {R} d t = IsTraceRing R × IsEitherVersion d t

-- a text is a trace: it is JSON in UTF-8, and its value is a trace
abbrev pub IsTraceText : {R : ℕ} → List ℕ → Trace R → Type 0
IsTraceText text t = IsUtf8 text × (d : Data) × (read text ≡ Some d) × IsTrace d t

-- the JSON object of version 2 of a book, from the values of its live events and bookmarks, the
-- number of cells of a ring, and the values of its start (`begun`) and its undone events
abbrev pub book_object : Items → Items → ℕ → Data → Items → Data
book_object events marks cells begun undone = object (
    member (codes "events") (array events)
    (member (codes "marks") (array marks)
    (member (codes "ring") (number (unsigned cells))
    (member (codes "start") begun
    (member (codes "undone") (array undone)
    (member (codes "version") (number (unsigned 2)) no_members))))))

-- the JSON value as which a book is written, if this is the value of its start
abbrev pub book_data : Data → BookState → Data
book_data begun b = book_object (items_by event_data b.session.live) (items_by mark_data b.marks) b.session.start.ring begun (items_by event_data b.session.undone)

-- a text is one as which a book may be written: JSON without spaces, its keys in alphabetical
-- order, and a line feed after it
abbrev pub IsWrittenAs : BookState → List ℕ → Type 0
IsWrittenAs b text = (begun : Data) × IsStartWrittenAs b.session.start begun × (text ≡ compact_text (book_data begun b) ++ 10 ∷ [])
