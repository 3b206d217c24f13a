-- A trace of version 2 has a start, bookmarks and two lists of events, so a value that lacks one
-- of them spells no trace; nor does one in which one of them spells nothing.
use Rattle.rd_trace.proofs.Prelude.{◌∙◌, none-some, view, Gives, SpellEachOf, elements, event_of, saved_trace, IsVersion2}
use Rattle.rd_trace.proofs.SpellLemmas.{part_passed_up}
use Rattle.rd_trace.proofs.saved.parse_version_2_book.Goals as goal

pub returns-in_default : goal.returns-in_default
returns-in_default g c = λ t h. none-some h.start.0 (c.in_default.ensures ∙ h.start.1)

pub returns-in_default-items_at : goal.returns-in_default-items_at
returns-in_default-items_at g c = λ t h. none-some h.marks.0 (c.in_default-items_at.ensures ∙ h.marks.1)

pub returns-in_err-parse_list : goal.returns-in_err-parse_list
returns-in_err-parse_list g c =
    part_passed_up elements (saved_trace {R = g.row.R}) (SpellEachOf (Gives event_of) _) (IsVersion2 (view c.args.value.now)) (λ t h. (t.live, rw c.items_at-2.ensures h.live)) c.in_err-parse_list.field-0.0
    c.from_residual-in_err-parse_list.result c.from_residual-in_err-parse_list.ensures.1 c.in_err-parse_list.ensures

pub returns-in_err-parse_list-2 : goal.returns-in_err-parse_list-2
returns-in_err-parse_list-2 g c =
    part_passed_up elements (saved_trace {R = g.row.R}) (SpellEachOf (Gives event_of) _) (IsVersion2 (view c.args.value.now)) (λ t h. (t.undone, rw c.items_at-3.ensures h.undone)) c.in_err-parse_list-2.field-0.0
    c.from_residual-in_err-parse_list-2.result c.from_residual-in_err-parse_list-2.ensures.1 c.in_err-parse_list-2.ensures
