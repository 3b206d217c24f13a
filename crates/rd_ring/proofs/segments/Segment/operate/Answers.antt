-- Each arm does the operation by the segment's own call for this place. The content that was found
-- there is the operand, so the call's answer and the place's new content are those that the
-- operation defines (`Operates-from_OperatesAt`).
use Rattle.rd_ring.proofs.Prelude.{sym, ◌∙◌, ap, arith, refl, Some, if◌then◌else◌, Content, Wrote, operand, segment_contents}
use Rattle.rd_ring.proofs.OperationLemmas.{Operates-read, Operates-from_OperatesAt, cell_is_within}
use Rattle.rd_ring.proofs.segments.Segment.operate.Goals as goal
use Rattle.rd_cell.specs.declared.places.Place.TheVariants as place
use Rattle.rd_cell.specs.declared.places.Wrote.TheVariants as wrote
use Rattle.rd_cell.specs.declared.operations.Answer.TheVariants as answer

pub returns-in-Some-read_answer-clause-ok : goal.returns-in-Some-read_answer-clause-ok
returns-in-Some-read_answer-clause-ok g c =
    Operates-read c.args.self.now c.args.place c.args.operation c.in-Some.found c.in-Some-read_answer.answer c.of_operation.result
    (sym c.in-Some.ensures) (sym c.in-Some-read_answer.ensures) c.of_operation.ensures

pub cas2_cell-won-requires : goal.cas2_cell-won-requires
cas2_cell-won-requires g c = (
  omega (arith, c.args.self.now.small),
  cell_is_within c.args.self.now _ _ c.args.place c.in-Some.found c.in-Cell-Cas2.is-0 (sym c.in-Some.ensures),
)

pub returns-in-Tail-Close-clause-ok : goal.returns-in-Tail-Close-clause-ok
returns-in-Tail-Close-clause-ok g c =
    Operates-from_OperatesAt c.args.self.now _ (λ s. place.Tail s) _ c.args.place _ c.args.operation _ c.in-Some.found _ _ c.of_operation-in-Tail-Close.result (λ q. refl)
    c.in-Tail-Close.is-0 c.in-Tail-Close.is-1 (sym c.in-Some.ensures) c.close-closed.ensures
    (λ e. c.of_operation-in-Tail-Close.ensures ∙ ap (λ (x : Content). record { place = Some c.args.place; old = Some x; answer = answer.WasClosed c.close-closed.result; wrote = wrote.Place }) e)

pub returns-in-Tail-CasTail-clause-ok : goal.returns-in-Tail-CasTail-clause-ok
returns-in-Tail-CasTail-clause-ok g c =
    let there = sym (ap (operand (segment_contents c.args.self.now)) c.in-Tail-CasTail.is-0) ∙ sym c.in-Some.ensures in
    Operates-from_OperatesAt c.args.self.now _ (λ s. place.Tail s) _ c.args.place _ c.args.operation _ c.in-Some.found _ _ c.of_cas.result (λ q. refl)
    c.in-Tail-CasTail.is-0 c.in-Tail-CasTail.is-1 (sym c.in-Some.ensures) (c.cas_tail-won.ensures c.in-Some.found there) (λ e. c.of_cas.ensures)

pub returns-in-Next-CasNext-clause-ok : goal.returns-in-Next-CasNext-clause-ok
returns-in-Next-CasNext-clause-ok g c =
    let there = sym (ap (operand (segment_contents c.args.self.now)) c.in-Next-CasNext.is-0) ∙ sym c.in-Some.ensures in
    Operates-from_OperatesAt c.args.self.now _ (λ s. place.Next s) _ c.args.place _ c.args.operation _ c.in-Some.found _ _ c.of_cas-in-Next-CasNext.result (λ q. refl)
    c.in-Next-CasNext.is-0 c.in-Next-CasNext.is-1 (sym c.in-Some.ensures) (c.cas_next-won.ensures c.in-Some.found there) (λ e. c.of_cas-in-Next-CasNext.ensures)

pub returns-in-Cell-Cas2-clause-ok : goal.returns-in-Cell-Cas2-clause-ok
returns-in-Cell-Cas2-clause-ok g c =
    let there = sym (ap (operand (segment_contents c.args.self.now)) c.in-Cell-Cas2.is-0) ∙ sym c.in-Some.ensures in
    Operates-from_OperatesAt c.args.self.now _ (λ s. place.Cell s c.in-Cell-Cas2.i) _ c.args.place _ c.args.operation _ c.in-Some.found _ _ c.of_cas-in-Cell-Cas2.result (λ q. refl)
    c.in-Cell-Cas2.is-0 c.in-Cell-Cas2.is-1 (sym c.in-Some.ensures) (c.cas2_cell-won.ensures c.in-Some.found there)
    (λ e.
    c.of_cas-in-Cell-Cas2.ensures
    ∙ ap (λ (w : Wrote). record { place = Some c.args.place; old = Some c.in-Some.found; answer = if c.cas2_cell-won.result then answer.Won else answer.Lost; wrote = if c.cas2_cell-won.result then w else wrote.Nothing }) c.cas2_wrote.ensures)
