use Rattle.std.proofs.Common.{refl, arith}
use Rattle.rd_segments.proofs.Prelude.{array_contents_with, array_contents, Operates-from_OperatesOn}
use Rattle.rd_segments.proofs.ArrayLemmas.{head_other, tail_other, slot_does}
use Rattle.rd_segments.proofs.array.ArrayParts.operate.Goals as goal
use Rattle.rd_cell.specs.declared.places.Place.TheVariants as place
use Rattle.rd_cell.specs.declared.contents.Content.TheVariants as content
use Rattle.rd_cell.specs.declared.contents.ArrSlot.TheVariants as slot

pub returns-in-ArrHead-clause-ok : goal.returns-in-ArrHead-clause-ok
returns-in-ArrHead-clause-ok c =
    let a = c.args.self.now in
    let n = c.operate_on_counter.new.counter in
    Operates-from_OperatesOn place.ArrHead c.args.place c.args.operation (content.Number a.head) (content.Number n) (array_contents a) (array_contents_with n a.tail a.cells)
    c.in-ArrHead.is (λ q. refl) refl refl refl (head_other a.head n a.tail a.cells) c.operate_on_counter.result c.operate_on_counter.ensures.ok

pub returns-in-ArrTail-clause-ok : goal.returns-in-ArrTail-clause-ok
returns-in-ArrTail-clause-ok c =
    let a = c.args.self.now in
    let n = c.operate_on_counter-in-ArrTail.new.counter in
    Operates-from_OperatesOn place.ArrTail c.args.place c.args.operation (content.Number a.tail) (content.Number n) (array_contents a) (array_contents_with a.head n a.cells)
    c.in-ArrTail.is (λ q. refl) refl refl refl (tail_other a.head a.tail n a.cells) c.operate_on_counter-in-ArrTail.result c.operate_on_counter-in-ArrTail.ensures.ok

pub returns-else-from-ge-SLOTS-clause-ok : goal.returns-else-from-ge-SLOTS-clause-ok
returns-else-from-ge-SLOTS-clause-ok c =
    slot_does c.args.self.now.head c.args.self.now.tail c.args.self.now.cells c.in-ArrCell.i c.from-in-ArrCell.result _ c.operate_on_slot.new.slot slot.Empty
    c.args.place c.args.operation c.in-ArrCell.is c.from-in-ArrCell.ensures (omega arith) refl c.operate_on_slot.result c.operate_on_slot.ensures.ok
