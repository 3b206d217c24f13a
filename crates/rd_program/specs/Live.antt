-- Viewers that are there at once over one book: what was written when all had ended.
use Rattle.std.specs.Prelude.{◌≡◌, ℕ, true, false, List, length, Result, Ok, Err, Vec}
use Rattle.std.specs.Global.{Global}
use Rattle.std.specs.Io.KnownBytes.{Appends}
use Rattle.rd_lock.specs.Histories.{NamesUpTo}
use Rattle.rd_marks.specs.BookState.{BookState}
use Rattle.rd_desk.specs.Histories.{entries}
use Rattle.rd_devices.specs.declared.sources.Source.{Ghosts as SourceOf}
use Rattle.rd_devices.specs.declared.sinks.Sink.{Ghosts as SinkOf}
use Rattle.rd_text.specs.declared.writing.headings.Heading.TheVariants.{History}
use Rattle.rd_devices.specs.Device.{TakesBeginning}
use Rattle.rd_text.specs.Headings.{heading_text}
use Rattle.rd_devices.specs.Streams.{GetsNothing, Stream}
use Rattle.rd_view.specs.declared.faults.ViewFault.TheVariants as view
use Rattle.rd_view.specs.declared.live.ViewerEnd.{ViewerEnd}
use Rattle.rd_view.specs.Live.{AreLiveEnds}
use Rattle.rd_view.specs.Viewing.{IsBusyOrNoMemory}
use Rattle.rd_program.specs.declared.faults.ProgramFault.{ProgramFault}
use Rattle.rd_program.specs.declared.faults.ProgramFault.TheVariants.{View}
use Rattle.rd_program.specs.declared.setups.Left.{Left}
use Rattle.rd_program.specs.declared.setups.ViewExtras.{ViewExtras}
use Rattle.rd_program.specs.Viewers.{HasExtras, LeadsTo}

-- the text on what viewers left: the number of their calls, and behind it what was asked for
abbrev pub IsLiveText : ViewExtras → Left → List ℕ → Type 0
IsLiveText extras left text = HasExtras extras left (heading_text (History (length (entries left.history)))) text

-- `opens`, `source` and `sink` are those of the terminals' type
module _ {T R W : Type 0} (opens : T → R → W → Type 0) (source : SourceOf R) (sink : SinkOf W) (opened : BookState) (terminals : List T) where
  -- viewers at these terminals, over a book in the state `opened`, ended so, and this is left. Each
  -- call in the history names one of them, and the history leads to the book
  pub record EndedLive (ends : List ViewerEnd) (left : Left) : Type 0 where
    pub leads : LeadsTo opened left
    pub named : NamesUpTo (length terminals) (entries left.history)
    pub ended : AreLiveEnds opens source sink opened (entries left.history) 1 terminals ends

  -- what became of these viewers, by the result: they ended so and left this, and the text on it was
  -- written whole; or the writer failed (`Write`), and took a beginning of the text; or nothing was
  -- written, at `NoMemory` or `Busy`. There is no other fault
  abbrev pub ViewsLive : ViewExtras → Stream → Result (Vec ViewerEnd Global × Left) ProgramFault → Type 0
  ViewsLive extras s (Ok done) = EndedLive done.0.items done.1 × ((text : List ℕ) × IsLiveText extras done.1 text × Appends s.before s.after text × (s.failed ≡ false))
  ViewsLive extras s (Err (View view.Write)) =
      (ends : List ViewerEnd) × (left : Left) × EndedLive ends left × ((text : List ℕ) × IsLiveText extras left text × TakesBeginning s.before s.after text × (s.failed ≡ true))
  ViewsLive extras s (Err (View fault)) = IsBusyOrNoMemory fault × GetsNothing false s
  ViewsLive extras s (Err _) = ⊥
