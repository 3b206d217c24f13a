-- No command changes the start, and a refused one changes nothing.
use Rattle.rd_marks.proofs.Prelude.{◌≡◌, ℕ, sym, subst, List, [], ◌∷◌, ◌++◌, length, Some, None, Result, Ok, Err, OnErr, IfErr, ◌∙◌, arith, same_Some, MayRefuse, Refusal, Event, Session, State, apply, call_result_of, undo_at, roll, back, forward, Command, BookState, MarkName, with_session, goto_mark, Answered, answer_with, IsEventAnswer, IsAsDefined, IsObeyed, AreObeyed, Reply, Applied, step_counts, as_event, ap, OnOk, AnswersAs, state, Journal, state_of}
use Rattle.rd_marks.specs.declared.commands.Command.TheVariants as command
use Rattle.rd_actor.specs.declared.actors.Act.TheVariants as act
pub use Rattle.rd_journal.proofs.Calls.{back_start, forward_start}

-- No call of a session changes its start

pub apply_start : (s : State) (e : Event) (t : State) → apply s e ≡ Ok t → t.start ≡ s.start
apply_start s e t h = grind arith

pub undo_at_start : (s : State) (k : ℕ) (t : State) → undo_at s k ≡ Ok t → t.start ≡ s.start
undo_at_start s k t l = grind arith

pub roll_start : (s : State) (k : ℕ) (t : State) → roll s k ≡ Ok t → t.start ≡ s.start
roll_start s k t l = grind arith

-- the start stays, whether the call was done or refused
pub answers_start : {R : ℕ} (moved : Result State Refusal) (done : Result (Unit {0}) Refusal) (old new : Session R)
    → ((t : State) → moved ≡ Ok t → t.start ≡ (state old).start) → AnswersAs moved done old new → (state new).start ≡ (state old).start
answers_start {R} moved (Ok tt) old new starts answers = starts (state new) answers
answers_start {R} moved (Err e) old new starts answers = ap (λ (s : Session R). (state s).start) answers.1

-- going to other events keeps the start too
pub start_kept : {X : Type 0} (r : Result X Refusal) (i j : Journal) (es : List Event) → OnOk r (state_of j ≡ record { start = i.start; live = es; undone = [] }) → OnErr r (j ≡ i) → j.start ≡ i.start
start_kept r i j es h g = grind arith

-- No command changes the start

-- the answer leaves the start as it was, and a refusal leaves everything
pub record LeavesStart (b : BookState) (a : Answered) : Type 0 where
  pub start : a.state.session.start ≡ b.session.start
  pub unchanged : OnErr a.answer (a.state ≡ b)

state_leaves : (b : BookState) (reply : State → Reply) (r : Result State Refusal) → ((t : State) → r ≡ Ok t → t.start ≡ b.session.start) → LeavesStart b (answer_with b reply (with_session b) r)
state_leaves b reply r starts = grind arith

goto_start : (b : BookState) (name : MarkName) (t : BookState) → goto_mark b name ≡ Ok t → t.session.start ≡ b.session.start
goto_start b name t h = grind arith

-- equal answers leave the same things
equal_leaves_start : (b : BookState) (a c : Answered) → LeavesStart b c → a ≡ c → LeavesStart b a
equal_leaves_start b a c leaves h = subst (λ (x : Answered). LeavesStart b x) (sym h) leaves

pub happened_leaves : (b : BookState) (e : Event) (a : Answered) → IsEventAnswer b e a → LeavesStart b a
happened_leaves b e a k = grind (arith, equal_leaves_start, state_leaves b (λ s. Applied (length s.live) (call_result_of b.session e)) (apply b.session e) (apply_start b.session e))

made_leaves : (b : BookState) (reply : BookState → Reply) (r : Result BookState Refusal) (P : Type 0) (a : Answered)
    → ((t : BookState) → r ≡ Ok t → t.session.start ≡ b.session.start) → IsAsDefined b (answer_with b reply (λ c. c) r) P a → LeavesStart b a
made_leaves b reply r P a starts k = grind arith

pub obeyed_leaves : (b : BookState) (c : Command) (a : Answered) → IsObeyed b c a → LeavesStart b a
obeyed_leaves b (command.Enq actor value) a h = happened_leaves b (record { actor = actor; act = act.Enq value }) a h
obeyed_leaves b (command.Deq actor) a h = happened_leaves b (record { actor = actor; act = act.Deq }) a h
obeyed_leaves b (command.ArrayEnq actor value) a h = happened_leaves b (record { actor = actor; act = act.AEnq value }) a h
obeyed_leaves b (command.ArrayDeq actor) a h = happened_leaves b (record { actor = actor; act = act.ADeq }) a h
obeyed_leaves b (command.Go actor) a h = happened_leaves b (record { actor = actor; act = act.Go }) a h
obeyed_leaves b (command.Starve actor choice) a h = happened_leaves b (record { actor = actor; act = act.Starve choice }) a h
obeyed_leaves b command.Undo a h = equal_leaves_start b a _ (state_leaves b step_counts (back b.session 1) (back_start b.session 1)) h
obeyed_leaves b (command.UndoAt k) a h = equal_leaves_start b a _ (state_leaves b step_counts (undo_at b.session k) (undo_at_start b.session k)) h
obeyed_leaves b (command.Roll k) a h = equal_leaves_start b a _ (state_leaves b step_counts (roll b.session k) (roll_start b.session k)) h
obeyed_leaves b (command.Back n) a h = equal_leaves_start b a _ (state_leaves b step_counts (back b.session n) (back_start b.session n)) h
obeyed_leaves b command.Redo a h = equal_leaves_start b a _ (state_leaves b step_counts (forward b.session 1) (forward_start b.session 1)) h
obeyed_leaves b (command.Forward n) a h = equal_leaves_start b a _ (state_leaves b step_counts (forward b.session n) (forward_start b.session n)) h
obeyed_leaves b (command.Mark name) a h = grind (arith, made_leaves)
obeyed_leaves b (command.DropMark name) a h = grind (arith, equal_leaves_start)
obeyed_leaves b (command.GotoMark name) a h = made_leaves b _ (goto_mark b name) _ a (goto_start b name) h
obeyed_leaves b _ a h = grind arith

-- One more command of a list is done

pub one_more_obeyed : (b m t : BookState) (cs : List Command) (answers : List (Result Reply Refusal)) (c : Command) (answer : Result Reply Refusal)
    → AreObeyed b cs answers m → IsObeyed m c (record { answer = answer; state = t }) → AreObeyed b (cs ++ c ∷ []) (answers ++ answer ∷ []) t
one_more_obeyed b m t [] [] c answer h k = grind arith
one_more_obeyed b m t [] (y ∷ ys) c answer h k = absurd h
one_more_obeyed b m t (x ∷ xs) [] c answer h k = absurd h
one_more_obeyed b m t (x ∷ xs) (y ∷ ys) c answer h k = (h.0, h.1, one_more_obeyed h.0 m t xs ys c answer h.2 k)

-- Why a command may lack memory, if it is an event, and if it is none

pub refused_event : {R : ℕ} {X : Type 0} (r : Result X Refusal) (s : Session R) (c : Command) (e : Event) → as_event c ≡ Some e → IfErr r (MayRefuse s e)
    → IfErr r (λ refusal. (f : Event) → as_event c ≡ Some f → MayRefuse s f refusal)
refused_event (Ok x) s c e is h = tt
refused_event (Err refusal) s c e is h = λ f its. subst (λ (x : Event). MayRefuse s x refusal) (same_Some e f (sym is ∙ its)) h

pub no_event_refused : {R : ℕ} {X : Type 0} (r : Result X Refusal) (s : Session R) (c : Command) → as_event c ≡ None
    → IfErr r (λ refusal. (f : Event) → as_event c ≡ Some f → MayRefuse s f refusal)
no_event_refused (Ok x) s c none = tt
no_event_refused (Err refusal) s c none = λ f its. absurd (cc)
