-- The values so far spell the bookmarks that were read, whose names differ (`AreRead`). If a
-- value spells no bookmark, or one with a name that is taken, the whole list spells no bookmarks
-- of a book.
use Rattle.std.proofs.Common.{rules, tests}
use Rattle.std.proofs.lemmas.Iterator.{YieldsList-from_slice}
use Rattle.std.proofs.lemmas.Iterator.Search.{any_from_yields_List}
use Rattle.rd_trace.proofs.Prelude.{common_steps, list_any, view, items_view, mark_name_eq, SpellsMark, SpellMarksOfBook, saved_mark, saved_marks, SavedMark, ◌≡◌, ◌+◌, List, length, sym, ap, ◌∙◌, subst, arith, Value}
use Rattle.rd_trace.proofs.SpellLemmas.{part_passed_up}
use Rattle.rd_trace.proofs.MarkLemmas.{AreRead, none_read, mark_here, name_taken, one_more_mark, all_read, too_many}
use Rattle.rd_trace.proofs.bookmarks.parse_marks.Goals.{After-any}
use Rattle.rd_trace.proofs.bookmarks.parse_marks.Goals as goal

pub returns-then-count-gt-MOST_MARKS : goal.returns-then-count-gt-MOST_MARKS
returns-then-count-gt-MOST_MARKS c = too_many c.args.list.now.items (omega arith)

pub loop-value-init : goal.loop-value-init
loop-value-init c = (none_read _ _ c.in_ok-marks.ensures.items, omega (arith, c.in_ok-marks.ensures.len), omega (arith, c.in_ok-marks.ensures.capacity, ap length c.deref-value-items.ensures.value))

pub returns-in_err-mark : goal.returns-in_err-mark
returns-in_err-mark c =
    let vs = c.deref-value-items.result.now in
    let v = c.value-item.result in
    part_passed_up saved_mark saved_marks (SpellsMark (view v)) (SpellMarksOfBook (items_view c.args.list.now.items))
    (λ ms k. mark_here vs c.loop-value.value-index v (omega arith) c.value-item.is ms (subst (λ (ws : List Value). SpellMarksOfBook (items_view ws) ms) (sym c.deref-value-items.ensures.value) k))
    c.in_err-mark.field-0.0 c.from_residual-in_err-mark.result c.from_residual-in_err-mark.ensures.1 c.in_err-mark.ensures

-- whether a bookmark before this one has its name
taken_before : (c : After-any) → c.any.result ≡ list_any (λ o. mark_name_eq c.in_ok-mark.mark.name o.name) c.loop-value.marks.items
taken_before c =
    rw c.deref.ensures.value at (any_from_yields_List (λ (o : SavedMark). mark_name_eq c.in_ok-mark.mark.name o.name) _ _ _ c.any.ensures.ran (YieldsList-from_slice c.deref.result.now cc) (λ x b q k. search (rules, tests)))

pub returns-then-any : goal.returns-then-any
returns-then-any c = λ ms k.
    let m = c.in_ok-mark.mark in
    let taken = sym (taken_before (goal.at.returns-then-any c).After-any) ∙ c.if-any.true in
    name_taken c.deref-value-items.result.now c.loop-value.value-index c.value-item.result (omega arith) c.value-item.is c.loop-value.marks.items c.loop-value.invariant.0 m
    c.in_ok-mark.ensures taken ms (subst (λ (ws : List Value). SpellMarksOfBook (items_view ws) ms) (sym c.deref-value-items.ensures.value) k)

pub loop-value-preserved : goal.loop-value-preserved
loop-value-preserved c =
    let m = c.in_ok-mark.mark in
    let free = sym (taken_before (goal.at.loop-value-preserved c).After-any) ∙ c.if-any.false in (
      subst (λ (os : List SavedMark). AreRead c.deref-value-items.result.now (c.loop-value.value-index + 1) os) (sym c.push_reserved.ensures.items)
          (one_more_mark c.deref-value-items.result.now c.loop-value.value-index c.value-item.result (omega arith) c.value-item.is c.loop-value.marks.items c.loop-value.invariant.0 m
          c.in_ok-mark.ensures free),
      omega arith,
      omega arith,
    )

pub returns : goal.returns
returns c = grind (arith, common_steps, all_read)
