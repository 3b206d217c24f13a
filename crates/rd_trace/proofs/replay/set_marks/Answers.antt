-- The bookmarks before this one were set, and none of their events is refused (`HasSet`). So an
-- event that is refused here is the first of all. The book has other names, and fewer than it
-- may have, so only memory can keep it from setting this one.
use Rattle.rd_trace.proofs.Prelude.{◌≡◌, ◌⊎◌, Ok, Err, IsOk, refl, ap, sym, subst, subst₂, ◌∙◌, arith, book_state, get_or_default, mark, SavedMark, IsFaultOfEvents, GoesTo, TraceStep}
use Rattle.rd_trace.proofs.ReplayLemmas.{one_set, can_mark, mark_refused, all_set}
use Rattle.rd_trace.proofs.replay.set_marks.Goals as goal
use Rattle.rd_cell.specs.declared.refusal.Refusal.TheVariants as refusal

pub loop-i-init : goal.loop-i-init
loop-i-init g c = record { marks = c.requires.none; start = refl; none = refl }

pub returns : goal.returns
returns g c = all_set (book_state c.args.book.now) (book_state c.loop-i.book) c.args.marks.now c.loop-i.i (omega arith) c.loop-i.invariant

pub returns-in-Err : goal.returns-in-Err
returns-in-Err g c =
    let now = book_state c.loop-i.book in
    let m = c.index-marks-i.result in
    let its = c.deref.ensures.value ∙ ap (λ (x : SavedMark). x.events.items) (sym c.index-marks-i.is) in
    let fault = TraceStep c.in-TraceStep.step c.in-TraceStep.cause in
    let why = subst₂ (IsFaultOfEvents now.session.start) its c.in-TraceStep.is c.in-Err.ensures in
    mark_refused (book_state c.args.book.now) now c.args.marks.now c.loop-i.i m (omega arith) c.index-marks-i.is c.loop-i.invariant (book_state c.go_to.new.book) fault why

pub unreachable-requires : goal.unreachable-requires
unreachable-requires g c =
    let now = book_state c.loop-i.book in
    let mid = book_state c.go_to.new.book in
    let cause = c.in-Err-mark.refusal in
    let m = c.index-marks-i.result in
    let its = c.deref.ensures.value ∙ ap (λ (x : SavedMark). x.events.items) (sym c.index-marks-i.is) in
    let goes = subst (λ es. GoesTo now es mid (Ok tt)) its c.in_default.ensures in
    let named = get_or_default c.args.marks.now c.loop-i.i _ _ c.loop-i-test.true ∙ sym c.index-marks-i.is in
    can_mark (book_state c.args.book.now) now c.args.marks.now c.loop-i.i m c.loop-i-test.true c.index-marks-i.is c.loop-i.invariant mid cause goes c.requires.names c.requires.few
    c.in_default-refusal.not-NoMemory
    (subst (λ (x : SavedMark). (mark mid x.name ≡ Err cause) ⊎ ((cause ≡ refusal.NoMemory) × IsOk (mark mid x.name))) named c.in-Err-mark.ensures.err)

pub loop-i-preserved : goal.loop-i-preserved
loop-i-preserved g c =
    let now = book_state c.loop-i.book in
    let mid = book_state c.go_to.new.book in
    let m = c.index-marks-i.result in
    let its = c.deref.ensures.value ∙ ap (λ (x : SavedMark). x.events.items) (sym c.index-marks-i.is) in
    let goes = subst (λ es. GoesTo now es mid (Ok tt)) its c.in_default.ensures in
    let named = get_or_default c.args.marks.now c.loop-i.i _ _ c.loop-i-test.true ∙ sym c.index-marks-i.is in
    one_set (book_state c.args.book.now) now c.args.marks.now c.loop-i.i m c.loop-i-test.true c.index-marks-i.is c.loop-i.invariant mid (book_state c.mark.new.self) goes
    (ap (λ (x : SavedMark). mark mid x.name) (sym named) ∙ c.in_default-mark.ensures.ok)
