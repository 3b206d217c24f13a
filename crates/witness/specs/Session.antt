-- The README's session, and a rollback after it: its lines, their replies, and the book that it
-- leaves. None of these definitions says what a command does.
use Rattle.std.specs.Prelude.{◌≡◌, ◌≢◌, ℕ, false, List, [], ◌∷◌, ◌++◌, flat_map, codes, Option, Some, Err}
use Rattle.std.specs.List.{AllByRecursion}
use Rattle.rd_cell.specs.declared.refusal.Refusal.TheVariants as refusal
use Rattle.rd_actor.specs.declared.actors.Act.{Act}
use Rattle.rd_actor.specs.declared.actors.Act.TheVariants as act
use Rattle.rd_step.specs.declared.entries.Event.{Event}
use Rattle.rd_step.specs.Starts.{fresh_world}
use Rattle.rd_journal.specs.State.{State}
use Rattle.rd_marks.specs.BookState.{BookState}
use Rattle.rd_script.specs.Answers.{report_of}
use Rattle.rd_text.specs.Replies.{LineAnswer}
use Rattle.rd_devices.specs.Streams.{Devices}
use Rattle.rd_text.specs.declared.answers.AnyRefusal.TheVariants.{Refused}

-- the text of these lines, with a line feed after each
abbrev pub text_of : List (List ℕ) → List ℕ
text_of lines = flat_map (λ line. line ++ 10 ∷ []) lines

-- the script: the README's lines, and then a rollback
abbrev pub script : List ℕ
script = text_of (
    codes "enq 3 9" ∷ codes "enq 1 7"
    ∷ codes "go 1" ∷ codes "go 1" ∷ codes "go 1" ∷ codes "go 1" ∷ codes "go 1" ∷ codes "go 1"
    ∷ codes "deq 2"
    ∷ codes "go 2" ∷ codes "go 2" ∷ codes "go 2" ∷ codes "go 2" ∷ codes "go 2"
    ∷ codes "origin 14" ∷ codes "undo 8" ∷ codes "undo 1" ∷ codes "step 7" ∷ codes "redo" ∷ codes "roll 7" ∷ [])

-- the report: the README's replies, and the one to the rollback
abbrev pub report : List ℕ
report = text_of (
    codes "ok 1" ∷ codes "ok 2"
    ∷ codes "ok 3" ∷ codes "ok 4" ∷ codes "ok 5" ∷ codes "ok 6" ∷ codes "ok 7" ∷ codes "ok 8 enqueued"
    ∷ codes "ok 9"
    ∷ codes "ok 10" ∷ codes "ok 11" ∷ codes "ok 12" ∷ codes "ok 13" ∷ codes "ok 14 value 7"
    ∷ codes "origin call 2 put 8 take 14" ∷ codes "refused 13 Depended 12" ∷ codes "at 13 1"
    ∷ codes "step 7; go 1; cell 0.0 0; wrote; won; enqueued" ∷ codes "at 14 0" ∷ codes "at 10 4" ∷ [])

-- this act of this actor
abbrev pub of : ℕ → Act → Event
of n does = record { actor = n; act = does }

-- actor 3 begins to enqueue 9
abbrev pub third_begins : Event
third_begins = of 3 (act.Enq 9)

-- actor 1 begins to enqueue 7, and goes on to the step that would put it
abbrev pub before_put : List Event
before_put = of 1 (act.Enq 7) ∷ of 1 act.Go ∷ of 1 act.Go ∷ of 1 act.Go ∷ of 1 act.Go ∷ of 1 act.Go ∷ []

-- actor 1 puts its value
abbrev pub put : Event
put = of 1 act.Go

-- actor 2 begins to dequeue, reads the queue's head and draws a position
abbrev pub before_look : List Event
before_look = of 2 act.Deq ∷ of 2 act.Go ∷ of 2 act.Go ∷ []

-- actor 2 reads the value, reads the safe bit and index, and takes the value
abbrev pub look_and_take : List Event
look_and_take = of 2 act.Go ∷ of 2 act.Go ∷ of 2 act.Go ∷ []

-- the events from the second to the last
abbrev pub but_first : List Event
but_first = before_put ++ put ∷ before_look ++ look_and_take

-- the state of a session over the fresh world of four actors with rings of four cells, where these
-- events are live and these undone
abbrev pub state_with : List Event → List Event → State
state_with live undone = record { start = fresh_world 4 4; live = live; undone = undone }

-- the state after the fourteen events of the README's session
abbrev pub played : State
played = state_with (third_begins ∷ but_first) []

-- a book with this state of its session, and no bookmarks
abbrev pub book_with : List Event → List Event → BookState
book_with live undone = record { session = state_with live undone; marks = [] }

-- a reader gave just this input and is at its end, and a writer took just this output; neither has
-- failed
abbrev pub devices_of : List ℕ → List ℕ → Devices
devices_of given taken = record {
  input = record { before = Some given; after = Some []; failed = false };
  output = record { before = Some []; after = Some taken; failed = false };
}

-- the book after the session: live are all steps but the put and what depends on it, and undone are
-- these
abbrev pub last : BookState
last = book_with (before_put ++ before_look ++ third_begins ∷ []) (put ∷ look_and_take)

-- no line was refused memory
abbrev pub NoLineLacksMemory : List LineAnswer → Type 0
NoLineLacksMemory answers = AllByRecursion (λ answer. answer ≢ Err (Refused refusal.NoMemory)) answers

-- the writer took (`taken`) the texts of some answers. If none of these refuses memory, the texts
-- are the report, and the book is the last one
pub record HasOneReport (taken : Option (List ℕ)) (book : BookState) : Type 0 where
  pub answers : List LineAnswer
  pub took : taken ≡ Some (report_of answers)
  pub one : NoLineLacksMemory answers → (report_of answers ≡ report) × (book ≡ last)
