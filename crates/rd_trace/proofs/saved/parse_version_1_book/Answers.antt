use Rattle.rd_trace.proofs.Prelude.{view, Gives, SpellEachOf, elements, event_of, saved_trace, IsVersion1}
use Rattle.rd_trace.proofs.SpellLemmas.{part_passed_up}
use Rattle.rd_trace.proofs.saved.parse_version_1_book.Goals as goal

pub returns-in_default : goal.returns-in_default
returns-in_default g c = λ t h. c.in_default.ensures.none h.actors.0 h.actors.1

pub returns-in_err-parse_list : goal.returns-in_err-parse_list
returns-in_err-parse_list g c =
    part_passed_up elements (saved_trace {R = g.row.R}) (SpellEachOf (Gives event_of) _) (IsVersion1 (view c.args.value.now)) (λ t h. (t.live, rw c.items_at.ensures h.live)) c.in_err-parse_list.field-0.0
    c.from_residual.result c.from_residual.ensures.1 c.in_err-parse_list.ensures
