-- The events so far happened after the live ones, so none of them is refused. An event that is
-- refused now is the first one of the whole list, and its number is one more than there are live
-- events.
use Rattle.rd_trace.proofs.Prelude.{◌≡◌, ◌+◌, ◌++◌, List, Ok, length, ap, subst, take_all, Event, GoesTo, ◌∙◌, arith, get_or_default, State, BookState, book_state}
use Rattle.rd_trace.proofs.ReplayLemmas.{none_stepped, one_stepped, one_refused, happened, not_happened}
use Rattle.rd_trace.proofs.replay.step_all.Goals as goal

pub loop-event-init : goal.loop-event-init
loop-event-init g c = none_stepped (book_state c.args.book.now) c.requires.through c.requires.none

pub returns-in-Err-clause-goes : goal.returns-in-Err-clause-goes
returns-in-Err-clause-goes g c =
    let old = book_state c.args.book.now in
    let now = book_state c.loop-event.book in
    let number : c.len-step.result + 1 ≡ length now.session.live + 1 =
    ap (λ n. n + 1) (c.len-step.ensures.count ∙ ap (λ (s : State). length s.live) (c.session.ensures.state ∙ ap (λ (b : BookState). b.session) c.in-Err.ensures.unchanged)) in
    one_refused old now c.args.events.now c.loop-event.event-index _ c.loop-event-test.true (get_or_default c.args.events.now c.loop-event.event-index _ _ c.loop-event-test.true) c.loop-event.invariant (c.len-step.result + 1) c.in-Err.cause number
    c.in_default-cause.not-NoMemory (not_happened now (book_state c.apply.new.self) _ c.in-Err.cause c.in-Err.ensures.answer)

pub loop-event-preserved : goal.loop-event-preserved
loop-event-preserved g c =
    let now = book_state c.loop-event.book in
    let after = book_state c.apply.new.self in
    let did = happened now after _ _ c.in_default.ensures.answer in
    one_stepped (book_state c.args.book.now) now c.args.events.now c.loop-event.event-index _ c.loop-event-test.true (get_or_default c.args.events.now c.loop-event.event-index _ _ c.loop-event-test.true) c.loop-event.invariant after did.0 did.1

pub returns-clause-goes : goal.returns-clause-goes
returns-clause-goes g c =
    let old = book_state c.args.book.now in
    subst (λ (done : List Event). GoesTo old (old.session.live ++ done) (book_state c.loop-event.book) (Ok tt)) (take_all c.loop-event.event-index c.args.events.now (omega arith)) c.loop-event.invariant
