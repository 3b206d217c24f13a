-- The README's session, and a rollback after it: the commands that its lines spell, the book's
-- answers, and the journal that it leaves. What is proved of these values, the checker computes.
use Rattle.std.specs.Prelude.{Result, true, take, IsOk, codes, flat_map}
use Rattle.std.specs.Fmt.{digits}
use Rattle.std.specs.Result.{result_unwrap_or}
use Rattle.std.proofs.Common.{◌∙◌, ap}
use Rattle.rd_cell.specs.Places.{root}
use Rattle.rd_cell.specs.declared.contents.Content.TheVariants as content
use Rattle.rd_cell.specs.declared.operations.Answer.TheVariants as answer
use Rattle.rd_cell.specs.declared.places.Place.TheVariants as place
use Rattle.rd_cell.specs.declared.places.Wrote.TheVariants as wrote
use Rattle.rd_cell.specs.declared.refusal.Refusal.TheVariants as refusal
use Rattle.rd_actor.specs.Actors.{idle}
use Rattle.rd_actor.specs.declared.actors.Pc.TheVariants.{E8}
use Rattle.rd_actor.specs.declared.actors.Op.TheVariants as op
use Rattle.rd_actor.specs.declared.actors.OpReply.TheVariants as op_reply
use Rattle.rd_step.specs.Prelude.{Refusal, World, Ran, run, first_dependant}
use Rattle.rd_step.specs.Run.{events, run_entries}
use Rattle.rd_step.specs.Starts.{fresh_world}
use Rattle.rd_step.proofs.Starts.{fresh_formed}
use Rattle.rd_step.specs.declared.entries.Entry.{Entry}
use Rattle.rd_step.specs.declared.entries.Event.{Event}
use Rattle.rd_journal.specs.Journal.{Journal, IsRun}
use Rattle.rd_journal.specs.State.{run_of}
use Rattle.rd_marks.specs.BookState.{BookState}
use Rattle.rd_marks.specs.Commands.{IsObeyed, AreObeyed}
use Rattle.rd_marks.specs.declared.commands.Command.{Command}
use Rattle.rd_marks.specs.declared.replies.Reply.{Reply}
use Rattle.rd_marks.specs.Headline.{Headline}
use Rattle.rd_marks.specs.declared.commands.Command.TheVariants as command
use Rattle.rd_marks.specs.declared.replies.Reply.TheVariants as reply
use Rattle.rd_script.proofs.Prelude.{◌≡◌, ◌++◌, ℕ, List, [], ◌∷◌, Ok, Err, refl, arith, inl, None, Some, AllZip, map}
use Rattle.rd_text.specs.Lines.{lines_of}
use Rattle.rd_text.specs.Spelling.{Says}
use Rattle.rd_text.specs.Replies.{answer_text}
use Rattle.rd_marks.specs.AnyBook.{fresh_state}
use Rattle.rd_script.specs.Answers.{AreObeyedLines, line_answer}
use Rattle.rd_script.specs.Script.{RunsScript}
use Rattle.rd_marks.proofs.Headlines.{run_of_live}
use Rattle.witness.specs.Session.{devices_of, third_begins, before_put, put, before_look, look_and_take, but_first, played, book_with, last, script, report}

-- the entry of the put
abbrev pub put_entry : Entry
put_entry = record {
  event = put;
  place = Some (place.Cell root 0);
  wrote = wrote.Place;
  answer = answer.Won;
  reply = Some op_reply.Enqueued;
  old_actor = record idle { pc = E8; op = Some (op.Enq 7); safe = true };
  old_content = Some (content.Cell (record { safe = true; idx = 0; val = None }));
}

-- the reply to an event that ends no call
abbrev pub applied : ℕ → Result Reply Refusal
applied n = Ok (reply.Applied n None)

-- the session's events
abbrev pub all : List Event
all = third_begins ∷ but_first

-- the book after the first n events
abbrev pub at : ℕ → BookState
at n = book_with (take n all) []

-- the book in which the first step is undone
abbrev pub without_first : BookState
without_first = book_with but_first (third_begins ∷ [])

-- each command with its answer and the book after it
abbrev pub Turn : Type 0
Turn = Command × Result Reply Refusal × BookState

-- the turns of the session
abbrev pub turns : List Turn
turns =
    (command.Enq 3 9, applied 1, at 1)
    ∷ (command.Enq 1 7, applied 2, at 2)
    ∷ (command.Go 1, applied 3, at 3)
    ∷ (command.Go 1, applied 4, at 4)
    ∷ (command.Go 1, applied 5, at 5)
    ∷ (command.Go 1, applied 6, at 6)
    ∷ (command.Go 1, applied 7, at 7)
    ∷ (command.Go 1, Ok (reply.Applied 8 (Some op_reply.Enqueued)), at 8)
    ∷ (command.Deq 2, applied 9, at 9)
    ∷ (command.Go 2, applied 10, at 10)
    ∷ (command.Go 2, applied 11, at 11)
    ∷ (command.Go 2, applied 12, at 12)
    ∷ (command.Go 2, applied 13, at 13)
    ∷ (command.Go 2, Ok (reply.Applied 14 (Some (op_reply.Value 7))), at 14)
    ∷ (command.Origin 14, Ok (reply.Origin (record { call = Some 2; put = Some 8; take = 14 })), at 14)
    ∷ (command.UndoAt 8, Err (refusal.Depended 12), at 14)
    ∷ (command.UndoAt 1, Ok (reply.At 13 1), without_first)
    ∷ (command.Step 7, Ok (reply.Step 7 put_entry), without_first)
    ∷ (command.Redo, Ok (reply.At 14 0), book_with (but_first ++ third_begins ∷ []) [])
    ∷ (command.Roll 7, Ok (reply.At 10 4), last)
    ∷ []

-- the commands, and their answers
abbrev pub commands : List Command
commands = map (λ (t : Turn). t.0) turns

abbrev pub answers : List (Result Reply Refusal)
answers = map (λ (t : Turn). t.1) turns

-- each command, in the book after the one before it, may be answered as the list has it
abbrev AreTaken : BookState → List Turn → Type 0
AreTaken b [] = Unit {0}
AreTaken b (t ∷ ts) = IsObeyed b t.0 (record { answer = t.1; state = t.2 }) × AreTaken t.2 ts

-- the book after the last one
abbrev book_after : BookState → List Turn → BookState
book_after b [] = b
book_after b (t ∷ ts) = book_after t.2 ts

-- such a list of turns is obeyed
obeyed_if_taken : (b : BookState) (ts : List Turn) → AreTaken b ts → AreObeyed b (map (λ (t : Turn). t.0) ts) (map (λ (t : Turn). t.1) ts) (book_after b ts)
obeyed_if_taken b [] h = refl
obeyed_if_taken b (t ∷ ts) h = (t.2, h.0, obeyed_if_taken t.2 ts h.1)

-- a pair, so that a long proof needs no parentheses
infixr 5 ◌also◌
pub ◌also◌ : {A B : Type 0} → A → B → A × B
a also b = (a, b)

-- the session's turns are such
taken : AreTaken (at 0) turns
taken =
    inl refl also inl refl also inl refl also inl refl also inl refl also inl refl also inl refl also inl refl
    also inl refl also inl refl also inl refl also inl refl also inl refl also inl refl
    also (refl, refl) also refl also refl also (refl, refl) also refl also refl also tt

-- The journal

-- the run of these events, or nothing if it is refused
abbrev ran : World → List Event → Ran
ran w es = result_unwrap_or (run w es) (record { world = w; entries = [] })

-- a result that is no refusal is its value
unwrapped : (r : Result Ran Refusal) (other : Ran) → IsOk r → r ≡ Ok (result_unwrap_or r other)
unwrapped r other ok = grind arith

-- a run that isn't refused is this one
ran_if_ok : (w : World) (es : List Event) → IsOk (run w es) → run w es ≡ Ok (ran w es)
ran_if_ok w es ok = unwrapped (run w es) (record { world = w; entries = [] }) ok

-- the world at the start
abbrev start : World
start = fresh_world 4 4

-- the events that stay live, and those that the rollback undoes
abbrev left : List Event
left = before_put ++ before_look ++ third_begins ∷ []

abbrev aside : List Event
aside = put ∷ look_and_take

-- the journal that the book keeps in the end
abbrev kept : Journal
kept = record { start = start; world = (ran start left).world; live = (ran start left).entries; undone = (ran (ran start left).world aside).entries }

-- its events are these
live_events : events kept.live ≡ left
live_events = refl

undone_events : events kept.undone ≡ aside
undone_events = refl

-- and it is a run
kept_is_run : IsRun kept
kept_is_run = record {
  well_formed = fresh_formed 4 4 (omega arith) (omega arith);
  live_ran = ap (run start) live_events ∙ ran_if_ok start left refl;
  undone_run_on = ap run_entries (ap (run kept.world) undone_events ∙ ran_if_ok kept.world aside refl);
}

-- The lines

-- the lines spell the commands
pub spelled : AllZip Says (lines_of script) (map Ok commands)
unfolding digits
spelled =
    (omega arith, (omega arith, (omega arith, tt)), refl) also (omega arith, (omega arith, (omega arith, tt)), refl)
    also go_1 also go_1 also go_1 also go_1 also go_1 also go_1
    also (omega arith, (omega arith, tt), refl)
    also go_2 also go_2 also go_2 also go_2 also go_2
    also (omega arith, (omega arith, tt), refl) also (omega arith, (omega arith, tt), refl) also (omega arith, (omega arith, tt), refl)
    also (omega arith, (omega arith, tt), refl) also (omega arith, tt, refl) also (omega arith, (omega arith, tt), refl) also tt
  where
    go_1 : Says (codes "go 1") (Ok (command.Go 1))
    go_1 = (omega arith, (omega arith, tt), refl)

    go_2 : Says (codes "go 2") (Ok (command.Go 2))
    go_2 = (omega arith, (omega arith, tt), refl)

-- The run of the script

-- the headline holds of the session
pub headline : Headline (fresh_state 4 4) commands answers last kept
headline = record { answered = obeyed_if_taken (at 0) turns taken; start = refl; is_run = run_of_live last kept refl kept_is_run }

-- the lines were obeyed
lines_obeyed : AreObeyedLines (fresh_state 4 4) (lines_of script) (map line_answer answers) last kept
lines_obeyed = record { said = map Ok commands; says = spelled; given = answers; headline = headline; each = refl }

-- the answers are the report's lines
pub reported : report ≡ flat_map answer_text (map line_answer answers)
unfolding digits
reported = refl

-- so it is a run of the script
pub is_run : (kept : Journal) × RunsScript (fresh_state 4 4) last kept (devices_of script report) (Ok 20)
is_run = (
  kept,
  record {
    in_works = refl;
    out_works = refl;
    given = script;
    took = refl;
    ended = refl;
    counted = refl;
    answers = map line_answer answers;
    done = lines_obeyed;
    wrote = reported;
  },
)

-- the put's first dependant is the step that read the value, and the first step has none
pub has_dependants : (found : Ran) × (run_of played ≡ Ok found) × (first_dependant found.entries 8 ≡ Some 12) × (first_dependant found.entries 1 ≡ None)
has_dependants = (ran start played.live, ran_if_ok start played.live refl, refl, refl)
