-- The results of the parts of replaying a trace: worlds, steps, bookmarks. No public clause cites
-- them.
use Rattle.std.specs.Prelude.{◌≡◌, ◌⊎◌, ℕ, List, [], Some, None, Result, Ok, Err}
use Rattle.rd_step.specs.Prelude.{World, Refusal, model}
use Rattle.rd_step.specs.declared.worlds.World.{World as CodeWorld}
use Rattle.rd_step.specs.declared.entries.Event.{Event}
use Rattle.serde_json.specs.Data.{Data}
use Rattle.rd_marks.specs.BookState.{Mark, BookState, at_events}
use Rattle.rd_marks.specs.Book.{book_state}
use Rattle.rd_marks.specs.declared.books.Book.{Book}
use Rattle.rd_trace.specs.declared.faults.TraceFault.{TraceFault}
use Rattle.rd_trace.specs.declared.faults.TraceFault.TheVariants.{NoMemory, BadTrace, Flawed, TraceStep}
use Rattle.rd_trace.specs.declared.starts.Start.{Start}
use Rattle.rd_trace.specs.Starts.{start_world, start_flaw}
use Rattle.rd_trace.specs.Saved.{Trace, IsEitherVersion, loaded_state}
use Rattle.rd_trace.specs.Loading.{first_mark_fault, Replays}
use Rattle.rd_trace.specs.Traces.{first_refused}

-- the result of making the world of a start: its world, if the start has no flaw; the first flaw;
-- or `NoMemory`, only if the start has no flaw. There is no other fault
abbrev pub MakesWorld : {R : ℕ} → Start R → Result (CodeWorld R) TraceFault → Type 0
MakesWorld start (Ok world) = (start_flaw start ≡ None) × (model world ≡ start_world start)
MakesWorld start (Err NoMemory) = start_flaw start ≡ None
MakesWorld start (Err (Flawed flaw)) = start_flaw start ≡ Some flaw
MakesWorld start (Err _) = ⊥

-- the fault of making these events happen from the start: `NoMemory`, or the `TraceStep` of the
-- first event that is refused
abbrev pub IsFaultOfEvents : World → List Event → TraceFault → Type 0
IsFaultOfEvents start events fault =
    (fault ≡ NoMemory) ⊎ ((step : ℕ) × (cause : Refusal) × (first_refused start [] events ≡ Some (step, cause)) × (fault ≡ TraceStep step cause))

-- the result of making just these events live, with nothing undone, which takes a book from the
-- state `old` to `new`: it was done, and none of them is refused; or a fault of `IsFaultOfEvents`, and
-- `new` is then unspecified
abbrev pub GoesTo : BookState → List Event → BookState → Result (Unit {0}) TraceFault → Type 0
GoesTo old events new (Ok _) = (new ≡ at_events old events) × (first_refused old.session.start [] events ≡ None)
GoesTo old events new (Err fault) = IsFaultOfEvents old.session.start events fault

-- the result of loading a JSON value as a trace over rings of R cells: the result of replaying a
-- trace that it spells; `BadTrace` if it spells none; or `NoMemory`
abbrev pub LoadsValue : {R : ℕ} → Data → Result (Book R) TraceFault → Type 0
LoadsValue d (Err NoMemory) = Unit {0}
LoadsValue {R} d (Err BadTrace) = (t : Trace R) → IsEitherVersion d t → ⊥
LoadsValue {R} d result = (t : Trace R) × IsEitherVersion d t × Replays (λ (book : Book R). book_state book ≡ loaded_state t) t result

-- the result of setting these bookmarks, each at its events, which takes a book from the state
-- `old` to `new`: the book has just these bookmarks and its old start, and none of their events is
-- refused; or `NoMemory`, or the fault of the first bookmark with a refused event. Nothing is said
-- of the events that are then live, or of `new` after a fault
abbrev pub SetsMarks : BookState → List Mark → BookState → Result (Unit {0}) TraceFault → Type 0
SetsMarks old marks new (Ok _) =
    (new.marks ≡ marks) × (new.session.start ≡ old.session.start) × (first_mark_fault old.session.start 0 marks ≡ None)
SetsMarks old marks new (Err fault) = (fault ≡ NoMemory) ⊎ (first_mark_fault old.session.start 0 marks ≡ Some fault)
