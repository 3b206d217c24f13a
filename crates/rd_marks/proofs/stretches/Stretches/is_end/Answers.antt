use Rattle.std.proofs.Common.{ap, length, arith}
use Rattle.rd_marks.proofs.StretchLists.{total}
use Rattle.rd_marks.proofs.Reading.{stretch_at}
use Rattle.rd_marks.proofs.stretches.Stretches.is_end.Goals as goal

pub overflow_add-result : goal.overflow_add-result
overflow_add-result c =
    let found = c.in-Some.ensures.lookup in
    let t = stretch_at c.args.self.now.list.items c.deref.result.now c.args.at.stretch c.in-Some.stretch.now c.deref.ensures.value found.3.0 found.1 in
    omega (arith, c.len.ensures, t.1, ap length t.2, total c.args.self.now.list.items c.args.self.now.nested c.args.at.stretch, c.args.self.now.nested.few c.args.at.stretch t.0)
