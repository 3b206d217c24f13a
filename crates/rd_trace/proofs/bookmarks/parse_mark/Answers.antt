use Rattle.rd_trace.proofs.Prelude.{view, Gives, SpellEachOf, elements, event_of, SpellsMark, saved_mark}
use Rattle.rd_trace.proofs.SpellLemmas.{part_passed_up}
use Rattle.rd_trace.proofs.bookmarks.parse_mark.Goals as goal

pub returns-in_err-parse_list : goal.returns-in_err-parse_list
returns-in_err-parse_list c =
    part_passed_up elements saved_mark (SpellEachOf (Gives event_of) _) (SpellsMark (view c.args.value.now)) (λ m h. (m.events, rw c.items_at.ensures h.events)) c.in_err-parse_list.field-0.0
    c.from_residual.result c.from_residual.ensures.1 c.in_err-parse_list.ensures
