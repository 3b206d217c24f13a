use Rattle.rd_ring.proofs.Prelude.{◌∙◌, sym, ap, operand, segment_contents}
use Rattle.rd_ring.proofs.segments.Segment.content.Goals as goal

pub returns-in-Some : goal.returns-in-Some
returns-in-Some g c =
    sym (c.in-Some.ensures.value c.in-Cell.field-0) ∙ sym (ap (operand (segment_contents c.args.self.now)) c.in-Cell.is)

pub returns-in-Some-cell : goal.returns-in-Some-cell
returns-in-Some-cell g c = sym (c.in-Some-cell.ensures.value_half c.in-Val.field-0) ∙ sym (ap (operand (segment_contents c.args.self.now)) c.in-Val.is)

pub returns-in-None-cell-2 : goal.returns-in-None-cell-2
returns-in-None-cell-2 g c = sym (c.in-None-cell-2.ensures.index_half c.in-Idx.field-0) ∙ sym (ap (operand (segment_contents c.args.self.now)) c.in-Idx.is)

pub returns-in-Some-cell-2 : goal.returns-in-Some-cell-2
returns-in-Some-cell-2 g c = sym (c.in-Some-cell-2.ensures.index_half c.in-Idx.field-0) ∙ sym (ap (operand (segment_contents c.args.self.now)) c.in-Idx.is)
