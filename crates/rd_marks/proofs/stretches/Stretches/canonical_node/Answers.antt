use Rattle.std.proofs.Common.{◌∙◌, arith}
use Rattle.rd_marks.proofs.Reading.{entries_in_list_before}
use Rattle.rd_marks.proofs.stretches.Stretches.canonical_node.Goals as goal

pub loop-at-preserved : goal.loop-at-preserved
loop-at-preserved c =
    let d = entries_in_list_before c.args.self.now.list.items c.args.self.now.nested c.loop-at.at (omega (arith, c.loop-at-test.true)) (omega (arith, c.if-at-shared_count.true, c.shared_count.ensures)) in
    record { number = c.loop-at.invariant.number; within = d.0; same = d.1 ∙ c.loop-at.invariant.same }
