-- What each command answers and leaves, from the state of the book alone. A query is answered from
-- the run of the live events. No definition here uses an inverse or an old content.
use Rattle.std.specs.Prelude.{◌≡◌, ℕ, ◌<◌, ◌⊎◌, Bool, List, [], ◌∷◌, length, ok_or, Result, Ok, Err, IsOk}
use Rattle.rd_step.specs.Prelude.{Refusal, content_at, Ran, numbered, and_then, result_map}
use Rattle.rd_actor.specs.declared.actors.Act.TheVariants as act
use Rattle.rd_step.specs.declared.entries.Event.{Event}
use Rattle.rd_journal.specs.State.{State, run_of, apply, call_result_of, MayLackMemory, undo_at, roll, back, forward}
use Rattle.rd_origin.specs.Origins.{origin_in}
use Rattle.rd_origin.specs.Writers.{last_writer_in}
use Rattle.rd_marks.specs.declared.commands.Command.{Command}
use Rattle.rd_marks.specs.declared.commands.Command.TheVariants as command
use Rattle.rd_marks.specs.declared.replies.Reply.{Reply}
use Rattle.rd_marks.specs.declared.replies.Reply.TheVariants as reply
use Rattle.rd_marks.specs.Prefixes.{NeedsNoEntry}
use Rattle.rd_marks.specs.BookState.{BookState, with_session, events_by_name, mark, drop_mark, goto_mark, mark_at, GotoMakesSteps, AnswersSame}
use Rattle.rd_cell.specs.declared.refusal.Refusal.TheVariants as refusal

-- the answer to a command, and the state after it
pub record Answered : Type 0 where
  pub answer : Result Reply Refusal
  pub state : BookState

-- the answer to a refused command: this refusal, and the state as it was
abbrev pub refused : BookState → Refusal → Answered
refused b cause = record { answer = Err cause; state = b }

-- the reply with the numbers of live and of undone steps
abbrev pub step_counts : State → Reply
step_counts s = reply.At (length s.live) (length s.undone)

-- the answer to a command with this result: from x, `reply_of` gives the reply and `after` the
-- state; a refusal leaves the state as it was
abbrev pub answer_with : {X : Type 0} → BookState → (X → Reply) → (X → BookState) → Result X Refusal → Answered
answer_with b reply_of after (Err cause) = refused b cause
answer_with b reply_of after (Ok x) = record { answer = Ok (reply_of x); state = after x }

-- the answer to an undo or redo: the numbers of live and undone steps after it, or its refusal
abbrev pub move_answer : BookState → Result State Refusal → Answered
move_answer b moved = answer_with b step_counts (with_session b) moved

-- the reply to a query of the run of the live events: `look` finds the answer in the run, or
-- refuses, and `reply_of` makes a reply of it
abbrev pub query_reply : {X : Type 0} → BookState → (X → Reply) → (Ran → Result X Refusal) → Result Reply Refusal
query_reply b reply_of look = result_map reply_of (and_then (run_of b.session) look)

-- the command was answered as `defined`, or it was refused with NoMemory and changed nothing, which
-- requires `MayAskForMemory`
abbrev pub IsAsDefined : BookState → Answered → Type 0 → Answered → Type 0
IsAsDefined b defined MayAskForMemory answered = (answered ≡ defined) ⊎ (MayAskForMemory × (answered ≡ refused b refusal.NoMemory))

-- the event may be answered so. Either it happens after the live events: the reply has the number
-- of its step, and the result of the call that it ends, if it ends one. Or it is refused, with
-- NoMemory only where the session may lack memory
abbrev pub IsEventAnswer : BookState → Event → Answered → Type 0
IsEventAnswer b e answered =
    IsAsDefined b (answer_with b (λ s. reply.Applied (length s.live) (call_result_of b.session e)) (with_session b) (apply b.session e)) (MayLackMemory b.session e) answered

-- the command sets a mark and needs no memory: the mark is not refused, there is room for its name
-- (`room` counts the further names that fit), and it needs no new entry. False for all other
-- commands
abbrev pub SetsMarkWithoutMemory : BookState → ℕ → Command → Type 0
SetsMarkWithoutMemory b room (command.Mark name) = IsOk (mark b name) × (0 < room) × NeedsNoEntry b.marks b.session.live
SetsMarkWithoutMemory b room _ = ⊥

-- the query may be answered so; false for a command that is no query
abbrev pub AnswersQuery : BookState → Command → Result Reply Refusal → Type 0
AnswersQuery b command.Marks answer = answer ≡ Ok (reply.Marks (length b.marks))
AnswersQuery b (command.MarkAt i) answer = answer ≡ result_map (λ m. reply.Mark m.0 m.1) (mark_at b i)
AnswersQuery b (command.Same one other) answer =
    (said : Result Bool Refusal) × AnswersSame b.session.start (events_by_name b.marks one) (events_by_name b.marks other) said × (answer ≡ result_map reply.Same said)
AnswersQuery b (command.Origin k) answer = answer ≡ query_reply b reply.Origin (λ ran. origin_in ran.entries k)
AnswersQuery b (command.Writer place) answer = answer ≡ query_reply b reply.Writer (λ ran. last_writer_in ran place)
AnswersQuery b (command.Show place) answer = answer ≡ query_reply b reply.Content (λ ran. ok_or (content_at ran.world.at place) refusal.NoSuchPlace)
AnswersQuery b (command.Actor n) answer = answer ≡ query_reply b reply.Actor (λ ran. ok_or (ran.world.actor n) refusal.NoActor)
AnswersQuery b (command.Step k) answer = answer ≡ query_reply b (reply.Step k) (λ ran. ok_or (numbered ran.entries k) (refusal.NoSuchStep (length ran.entries)))
AnswersQuery b command.Len answer = answer ≡ Ok (step_counts b.session)
AnswersQuery b _ answer = ⊥

-- the command may be answered so and leave this state; a query leaves the state as it was
abbrev pub IsObeyed : BookState → Command → Answered → Type 0
IsObeyed b (command.Enq actor value) answered = IsEventAnswer b (record { actor = actor; act = act.Enq value }) answered
IsObeyed b (command.Deq actor) answered = IsEventAnswer b (record { actor = actor; act = act.Deq }) answered
IsObeyed b (command.ArrayEnq actor value) answered = IsEventAnswer b (record { actor = actor; act = act.AEnq value }) answered
IsObeyed b (command.ArrayDeq actor) answered = IsEventAnswer b (record { actor = actor; act = act.ADeq }) answered
IsObeyed b (command.Go actor) answered = IsEventAnswer b (record { actor = actor; act = act.Go }) answered
IsObeyed b (command.Starve actor choice) answered = IsEventAnswer b (record { actor = actor; act = act.Starve choice }) answered
IsObeyed b command.Undo answered = answered ≡ move_answer b (back b.session 1)
IsObeyed b (command.UndoAt k) answered = answered ≡ move_answer b (undo_at b.session k)
IsObeyed b (command.Roll k) answered = answered ≡ move_answer b (roll b.session k)
IsObeyed b (command.Back n) answered = answered ≡ move_answer b (back b.session n)
IsObeyed b command.Redo answered = answered ≡ move_answer b (forward b.session 1)
IsObeyed b (command.Forward n) answered = answered ≡ move_answer b (forward b.session n)
IsObeyed b (command.Mark name) answered = IsAsDefined b (answer_with b (λ c. reply.Marked (length c.session.live)) (λ c. c) (mark b name)) (IsOk (mark b name)) answered
IsObeyed b (command.DropMark name) answered = answered ≡ answer_with b (λ c. reply.Dropped) (λ c. c) (drop_mark b name)
IsObeyed b (command.GotoMark name) answered = IsAsDefined b (answer_with b (λ c. step_counts c.session) (λ c. c) (goto_mark b name)) (GotoMakesSteps b name) answered
IsObeyed b query answered = AnswersQuery b query answered.answer × (answered.state ≡ b)

-- the commands, done one after another, may have these answers, one each, and leave the state
-- `last`; false if there are more answers than commands, or fewer
abbrev pub AreObeyed : BookState → List Command → List (Result Reply Refusal) → BookState → Type 0
AreObeyed b [] [] last = last ≡ b
AreObeyed b (c ∷ cs) (answer ∷ answers) last = (next : BookState) × IsObeyed b c (record { answer = answer; state = next }) × AreObeyed next cs answers last
AreObeyed b _ _ last = ⊥
