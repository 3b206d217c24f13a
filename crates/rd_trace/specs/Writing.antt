-- What a sink gets when a trace is written.
use Rattle.std.specs.Prelude.{◌≡◌, ℕ, true, false, List, Result, Ok, Err}
use Rattle.std.specs.Io.KnownBytes.{Appends}
use Rattle.rd_devices.specs.Device.{TakesBeginning}
use Rattle.rd_devices.specs.Streams.{IsUnused, Stream}
use Rattle.rd_marks.specs.BookState.{BookState}
use Rattle.rd_trace.specs.Traces.{IsTraceRing}
use Rattle.rd_trace.specs.Saved.{IsWrittenAs}
use Rattle.rd_trace.specs.Loading.{IsLoadable}
use Rattle.rd_trace.specs.declared.faults.TraceFault.{TraceFault}
use Rattle.rd_trace.specs.declared.faults.TraceFault.TheVariants.{NoMemory, Write}

-- a text is one as which a book in this state may be written; if a trace may have the book's rings,
-- the text can be loaded, and gives the same book
pub record IsTextOf (b : BookState) (text : List ℕ) : Type 0 where
  pub written : IsWrittenAs b text
  pub loads : IsTraceRing b.session.start.ring → IsLoadable b text

-- what a sink took of the text of a book, by the result of writing it: all of it; nothing if memory
-- was refused; a beginning of it if the sink failed. There is no other fault
abbrev pub WritesTrace : BookState → Stream → Result (Unit {0}) TraceFault → Type 0
WritesTrace b s (Ok _) = (text : List ℕ) × IsTextOf b text × Appends s.before s.after text × (s.failed ≡ false)
WritesTrace b s (Err NoMemory) = IsUnused s
WritesTrace b s (Err Write) = (text : List ℕ) × IsTextOf b text × TakesBeginning s.before s.after text × (s.failed ≡ true)
WritesTrace b s (Err _) = ⊥
