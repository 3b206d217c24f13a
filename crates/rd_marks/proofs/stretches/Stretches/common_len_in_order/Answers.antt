use Rattle.std.proofs.Common.{◌≡◌, ◌+◌, suc, arith}
use Rattle.rd_marks.proofs.Reading.{common_most, common_on}
use Rattle.rd_marks.proofs.stretches.Stretches.common_len_in_order.Goals as goal

pub loop-i-preserved : goal.loop-i-preserved
loop-i-preserved c =
    let inv = c.loop-i.invariant in
    let e : c.loop-i.i + 1 ≡ suc c.loop-i.i = omega arith in
    let min = c.min-common-in-loop-i.ensures in
    record {
      first = omega (arith, inv.first, min);
      second = omega (arith, inv.second, min);
      alike = grind (arith, common_on);
      most = λ n h k all. omega (arith, inv.most n h k (λ j low high. all j low (omega (arith, high))), all (c.loop-i.i + 1) (omega (arith, c.loop-i.auto.i)) (omega arith), min, c.shared_count.ensures);
    }

pub returns-clause-most : goal.returns-clause-most
returns-clause-most c = λ n h k same. c.loop-i.invariant.most n h k (λ j low high.
    common_most c.args.self.now.list.items c.args.self.now.nested c.args.self.now.fresh c.args.one c.args.other c.requires.one c.requires.other n h k same j low
    (omega (arith, high, c.loop-i.auto.i, c.loop-i.auto.i-end, c.requires.later)))
