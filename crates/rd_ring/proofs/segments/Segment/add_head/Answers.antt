use Rattle.std.proofs.Common.{arith}
use Rattle.rd_ring.proofs.SegmentLemmas.{RefusesAt-head_end}
use Rattle.rd_ring.proofs.segments.Segment.add_head.Goals as goal

pub returns-then-self-eq-COUNTER_END-clause-err : goal.returns-then-self-eq-COUNTER_END-clause-err
returns-then-self-eq-COUNTER_END-clause-err g c = RefusesAt-head_end c.args.self.now c.if-self-eq-COUNTER_END.true

pub returns-clause-ok : goal.returns-clause-ok
returns-clause-ok g c = grind arith
