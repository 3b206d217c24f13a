use Rattle.rd_trace.proofs.Prelude.{view, SpellEachOf, itself, elements, SpellsActor, SpellsSegmentList, SpellsParts}
use Rattle.rd_trace.proofs.SpellLemmas.{part_passed_up}
use Rattle.rd_trace.proofs.starts.parse_parts.Goals as goal

pub returns-in_err-parse_list : goal.returns-in_err-parse_list
returns-in_err-parse_list g c =
    part_passed_up elements itself (SpellEachOf SpellsActor _) (SpellsParts {R = g.row.R} (view c.args.value.now)) (λ p h. (p.actors.items, rw c.items_at.ensures h.actors)) c.in_err-parse_list.field-0.0
    c.from_residual.result c.from_residual.ensures.1 c.in_err-parse_list.ensures

pub returns-in_err-parse_list-2 : goal.returns-in_err-parse_list-2
returns-in_err-parse_list-2 g c =
    part_passed_up elements itself (SpellEachOf SpellsSegmentList _) (SpellsParts {R = g.row.R} (view c.args.value.now)) (λ p h. (p.segments.items, rw c.items_at-2.ensures h.segments)) c.in_err-parse_list-2.field-0.0
    c.from_residual-in_err-parse_list-2.result c.from_residual-in_err-parse_list-2.ensures.1 c.in_err-parse_list-2.ensures
