-- The result of loading a text: a book, or why there is none.
use Rattle.std.specs.Prelude.{◌≡◌, ◌⊎◌, ◌+◌, ◌<◌, ℕ, List, [], ◌∷◌, ◌++◌, length, Option, Some, None, option_map, Result, Ok, Err}
use Rattle.std.specs.Option.{option_or}
use Rattle.rd_step.specs.Prelude.{World}
use Rattle.rd_marks.specs.BookState.{Mark, BookState}
use Rattle.rd_marks.specs.AnyBook.{any_state, IsBookIn}
use Rattle.rd_marks.specs.declared.any_book.AnyBook.{AnyBook}
use Rattle.rd_trace.specs.declared.faults.TraceFault.{TraceFault}
use Rattle.rd_trace.specs.declared.faults.TraceFault.TheVariants.{NoMemory, BadTrace, Flawed, TraceMark, TraceStep}
use Rattle.rd_trace.specs.Starts.{start_world, start_flaw}
use Rattle.rd_trace.specs.Saved.{Trace, IsTraceText, loaded_state, IsSameBook}
use Rattle.rd_trace.specs.Traces.{first_refused}

-- the fault of loading for the first of these bookmarks with a refused event: the bookmark's
-- number, counted from n + 1, and the number, from 1, and the cause of its first such event. None
-- if no event is refused
abbrev pub first_mark_fault : World → ℕ → List Mark → Option TraceFault
first_mark_fault start n [] = None
first_mark_fault start n (m ∷ ms) =
    option_or (option_map (λ refused. TraceMark (n + 1) refused.0 refused.1) (first_refused start [] m.events)) (first_mark_fault start (n + 1) ms)

-- the fault of a trace that has no book, else none. In this order: the first flaw of its start; the
-- first refused event of the first bookmark that has one; the first refused event of its live
-- events and the undone ones after them, with its number, from 1, and its cause
abbrev pub trace_fault : {R : ℕ} → Trace R → Option TraceFault
trace_fault t =
    option_or (option_map Flawed (start_flaw t.start))
    (option_or (first_mark_fault (start_world t.start) 0 t.marks)
    (option_map (λ refused. TraceStep refused.0 refused.1) (first_refused (start_world t.start) [] (t.live ++ t.undone))))

-- the result of replaying a trace: a book for which `IsBook` holds, if the trace has no fault; its
-- fault; or `NoMemory`, only if its start has no flaw
abbrev pub Replays : {R : ℕ} {B : Type 0} → (B → Type 0) → Trace R → Result B TraceFault → Type 0
Replays IsBook t (Ok book) = (trace_fault t ≡ None) × IsBook book
Replays IsBook t (Err fault) =
    ((fault ≡ NoMemory) × (start_flaw t.start ≡ None)) ⊎ (trace_fault t ≡ Some fault)

-- the result of loading a text: the result of replaying a trace that it is; `BadTrace` if it is
-- none; or `NoMemory`, only if the text is not empty
abbrev pub LoadsTrace : List ℕ → Result AnyBook TraceFault → Type 0
LoadsTrace text (Err NoMemory) = 0 < length text
LoadsTrace text (Err BadTrace) = (R : ℕ) (t : Trace R) → IsTraceText text t → ⊥
LoadsTrace text result = (R : ℕ) × (t : Trace R) × IsTraceText text t × Replays (IsBookIn (loaded_state t)) t result

-- two results of loading are the same: the same book, or the same fault
abbrev pub IsSameAnswer : Result AnyBook TraceFault → Result AnyBook TraceFault → Type 0
IsSameAnswer (Ok one) (Ok other) = IsSameBook (any_state one) (any_state other)
IsSameAnswer (Ok book) (Err fault) = ⊥
IsSameAnswer (Err fault) (Ok book) = ⊥
IsSameAnswer (Err one) (Err other) = one ≡ other

-- a text can be loaded as a book in this state: it is a trace that has no fault, and whose book has
-- this state
abbrev pub IsLoadable : BookState → List ℕ → Type 0
IsLoadable b text = (t : Trace b.session.start.ring) × IsTraceText text t × (trace_fault t ≡ None) × (loaded_state t ≡ b)

-- the result of loading a text as which a book in this state was written: the same book, or
-- `NoMemory`
abbrev pub LoadsAgain : BookState → Result AnyBook TraceFault → Type 0
LoadsAgain b (Ok book) = IsSameBook (any_state book) b
LoadsAgain b (Err fault) = fault ≡ NoMemory
