-- The answers to undos, redos and events, from the results of the calls.
use Rattle.rd_marks.proofs.Prelude.{◌≡◌, ◌⊎◌, ℕ, inl, inr, sym, ap, ◌∙◌, subst, List, length, Option, Result, Ok, Err, OnOk, IfErr, Refusal, OpReply, Event, Session, state, Journal, State, MayLackMemory, state_of, apply, call_result_of, Mark, BookState, with_session, Answered, answer_with, move_answer, IsEventAnswer, length-map, result_map, AnswersAs, step_counts, as_reply, Reply, Applied, IsErrAnd, arith}
use Rattle.rd_marks.specs.declared.replies.EventReply.{EventReply}
use Rattle.rd_cell.specs.declared.refusal.Refusal.TheVariants as refusal

-- a move, done or refused, has the answer and leaves the state that `move_answer` defines
pub move_answered : {R : ℕ} (old new : Session R) (marks after : List Mark) (answer : Result Reply Refusal) (done : Result (Unit {0}) Refusal) (moved : Result State Refusal)
    → AnswersAs moved done old new → after ≡ marks → OnOk done (answer ≡ Ok (step_counts (state new))) → IfErr done (λ refusal. answer ≡ Err refusal)
    → record { answer = answer; state = record { session = state new; marks = after } } ≡ move_answer (record { session = state old; marks = marks }) moved
move_answered old new marks after answer (Ok tt) moved answers kept counts refuses =
    let its : answer ≡ Ok (step_counts (state new)) = counts in
    (λ i. record { answer = its i; state = record { session = state new; marks = kept i } }) ∙ sym (ap (move_answer (record { session = state old; marks = marks })) answers)
move_answered old new marks after answer (Err e) moved answers kept counts refuses =
    let its : answer ≡ Err e = refuses in
    (λ i. record { answer = its i; state = record { session = state (answers.1 i); marks = kept i } })
    ∙ sym (ap (move_answer (record { session = state old; marks = marks })) answers.0)

-- an error that is passed up is the answer
pub passed_up : {X : Type 0} (refusal : Refusal) (answer : Result X Refusal) → IsErrAnd answer (λ e. e ≡ refusal) → answer ≡ Err refusal
passed_up refusal answer is = grind arith

-- passing up the refusal of an event keeps what `IsEventAnswer` states of it
pub event_passed_up : (b after : BookState) (e : Event) (refusal : Refusal) (answer : Result Reply Refusal) → IsErrAnd answer (λ x. x ≡ refusal)
    → IsEventAnswer b e (record { answer = Err refusal; state = after }) → IsEventAnswer b e (record { answer = answer; state = after })
event_passed_up b after e refusal answer is happened =
    subst (λ (a : Result Reply Refusal). IsEventAnswer b e (record { answer = a; state = after })) (sym (passed_up refusal answer is)) happened

module _ (old new : Journal) (marks : List Mark) (e : Event) where
  abbrev pub before : BookState
  before = record { session = state_of old; marks = marks }

  abbrev of_step : Result State Refusal → Answered
  of_step r = answer_with before (λ s. Applied (length s.live) (call_result_of (state_of old) e)) (with_session before) r

  -- an event that made a step is answered as `IsEventAnswer` allows
  pub event_made : (after : List Mark) (n : ℕ) (reply : Option OpReply) → apply (state_of old) e ≡ Ok (state_of new) → n ≡ length new.live
      → call_result_of (state_of old) e ≡ reply → after ≡ marks
      → IsEventAnswer before e (record { answer = Ok (Applied n reply); state = record { session = state_of new; marks = after } })
  event_made after n reply made number its kept = grind (arith, made, number, its, kept, length-map)

  -- an event that was refused is answered as `IsEventAnswer` allows
  pub event_refused : (answer : Result EventReply Refusal) (cause : Refusal) → new ≡ old → IsErrAnd answer (λ e. e ≡ cause)
      → (apply (state_of old) e ≡ Err cause) ⊎ ((cause ≡ refusal.NoMemory) × MayLackMemory (state_of old) e)
      → IsEventAnswer before e (record { answer = result_map as_reply answer; state = record { session = state_of new; marks = marks } })
  event_refused answer cause same is (inl h) =
      inl ((λ i. record { answer = result_map as_reply (passed_up cause answer is i); state = record { session = state_of (same i); marks = marks } }) ∙ sym (ap of_step h))
  event_refused answer cause same is (inr h) =
      let said : answer ≡ Err refusal.NoMemory = passed_up cause answer is ∙ ap (λ (x : Refusal). Err x) h.0 in
      inr (h.1, λ i. record { answer = result_map as_reply (said i); state = record { session = state_of (same i); marks = marks } })
