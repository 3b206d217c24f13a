-- Views of a book's bookmarks: their stretches, their names with entries, their marks, and the
-- entries up to which they are known to agree with the session's track.
use Rattle.std.specs.Prelude.{List, map}
use Rattle.rd_step.specs.declared.entries.Entry.{Entry}
use Rattle.rd_journal.specs.Journal.{events}
use Rattle.rd_marks.specs.BookState.{Mark}
use Rattle.rd_marks.specs.declared.names.MarkName.{MarkName}
use Rattle.rd_marks.specs.declared.stretches.Stretch.{Stretch}
use Rattle.rd_marks.specs.declared.bookmarks.Bookmarks.{Bookmarks}
use Rattle.rd_marks.specs.BookmarksFields.{named_entries}
use Rattle.rd_marks.specs.Stretches.{entries_at}

-- the stretches that keep the entries of the bookmarks
abbrev pub stretches_in : Bookmarks → List Stretch
stretches_in b = b.stretches.list.items

-- each bookmark's name with its entries, in the order in which they were set
abbrev pub named_entries_in : Bookmarks → List (MarkName × List Entry)
named_entries_in b = named_entries b.stretches.list.items b.names.entries

-- each name with the events of its entries
abbrev pub marks_of : List (MarkName × List Entry) → List Mark
marks_of lists = map (λ l. record { name = l.0; events = events l.1 }) lists

-- the entries of the node `here`, whose events begin the session's track
abbrev pub here_entries : Bookmarks → List Entry
here_entries b = entries_at (stretches_in b) b.here
