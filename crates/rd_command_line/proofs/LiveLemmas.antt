-- What viewers at terminals left, in terms of the names of these terminals.
use Rattle.std.proofs.Common.{inl, inr, ℕ, suc, List, [], ◌∷◌, Vec, Result, Ok, Err}
use Rattle.std.specs.Prelude.{map}
use Rattle.std.specs.Global.{Global}
use Rattle.std.proofs.lemmas.List.{length-map}
use Rattle.rd_marks.specs.BookState.{BookState}
use Rattle.rd_desk.specs.declared.histories.Call.{Call}
use Rattle.rd_desk.specs.Histories.{entries}
use Rattle.rd_devices.specs.declared.sources.Source.{Ghosts as SourceOf}
use Rattle.rd_devices.specs.declared.sinks.Sink.{Ghosts as SinkOf}
use Rattle.rd_devices.specs.declared.faults.ScriptFault.{ScriptFault}
use Rattle.rd_devices.specs.Streams.{Stream}
use Rattle.rd_view.specs.declared.live.ViewerEnd.{ViewerEnd}
use Rattle.rd_view.specs.declared.live.ViewerEnd.TheVariants.{Ended, Stopped, NotStarted}
use Rattle.rd_view.specs.declared.faults.ViewFault.TheVariants as view
use Rattle.rd_view.specs.Live.{AreLiveEnds, Conversed, IsLiveEnd, NumberedLine}
use Rattle.rd_program.specs.declared.faults.ProgramFault.{ProgramFault}
use Rattle.rd_program.specs.declared.faults.ProgramFault.TheVariants as program
use Rattle.rd_program.specs.declared.setups.Left.{Left}
use Rattle.rd_program.specs.declared.setups.ViewExtras.{ViewExtras}
use Rattle.rd_program.specs.Live.{EndedLive, ViewsLive}

-- `opens` is what a terminal opens, `named` what any terminal of a name opens
module _ {S T R W : Type 0} (name : S → T) (opens : S → R → W → Type 0) (named : T → R → W → Type 0) (source : SourceOf R) (sink : SinkOf W) (as_named : (s : S) (r : R) (w : W) → opens s r w → named (name s) r w) where
  -- a conversation at a terminal is one at its name
  conversed : (Done : List (List ℕ) → List NumberedLine → Type 0) (s : S) (result : Result ℕ ScriptFault) → Conversed opens source sink Done s result → Conversed named source sink Done (name s) result
  conversed Done s result c = record {
    reader = c.reader;
    reader' = c.reader';
    writer = c.writer;
    writer' = c.writer';
    opened = as_named s c.reader c.writer c.opened;
    converses = c.converses;
  }

  module _ (opened : BookState) (history : List (ℕ × Call)) where
    -- a viewer at a terminal ended as one at its name
    live_end : (viewer : ℕ) (s : S) (e : ViewerEnd) → IsLiveEnd opens source sink opened history viewer s e → IsLiveEnd named source sink opened history viewer (name s) e
    live_end viewer s NotStarted none = none
    live_end viewer s (Ended lines) c = conversed _ s (Ok lines) c
    live_end viewer s (Stopped fault) (inl none) = inl none
    live_end viewer s (Stopped fault) (inr c) = inr (conversed _ s (Err fault) c)

    -- the same of viewers from a number on
    live_ends : (viewer : ℕ) (ss : List S) (es : List ViewerEnd) → AreLiveEnds opens source sink opened history viewer ss es → AreLiveEnds named source sink opened history viewer (map name ss) es
    live_ends viewer [] [] are = are
    live_ends viewer [] (e ∷ es) are = are
    live_ends viewer (s ∷ ss) [] are = are
    live_ends viewer (s ∷ ss) (e ∷ es) are = (live_end viewer s e are.0, live_ends (suc viewer) ss es are.1)

  module _ (opened : BookState) (ss : List S) (extras : ViewExtras) where
    -- viewers at terminals ended so and left this, as viewers at their names did
    ended_live : (ends : List ViewerEnd) (left : Left) → EndedLive opens source sink opened ss ends left → EndedLive named source sink opened (map name ss) ends left
    ended_live ends left is = record { leads = is.leads; named = rw (length-map ss name) is.named; ended = live_ends opened (entries left.history) 1 ss ends is.ended }

    -- what became of viewers at terminals became of viewers at their names
    pub views_named : (s : Stream) (result : Result (Vec ViewerEnd Global × Left) ProgramFault) → ViewsLive opens source sink opened ss extras s result → ViewsLive named source sink opened (map name ss) extras s result
    views_named s (Ok done) is = (ended_live done.0.items done.1 is.0, is.1)
    views_named s (Err (program.View view.Write)) is = (is.0, is.1, ended_live is.0 is.1 is.2, is.3)
    views_named s (Err (program.View view.NoMemory)) is = is
    views_named s (Err (program.View (view.Busy words))) is = is
    views_named s (Err program.NoMemory) is = is
    views_named s (Err program.Read) is = is
    views_named s (Err (program.Script fault)) is = is
    views_named s (Err (program.Trace fault)) is = is
