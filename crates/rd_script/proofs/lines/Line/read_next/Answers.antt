use Rattle.rd_script.proofs.Prelude.{common_steps, arith}
use Rattle.rd_script.proofs.LineLemmas.{goes_on, is_last}
use Rattle.rd_script.proofs.lines.Line.read_next.Goals as goal

pub returns-in-Some-eq10-clause-reads : goal.returns-in-Some-eq10-clause-reads
returns-in-Some-eq10-clause-reads g c = grind (arith, common_steps)

pub loop-length-preserved : goal.loop-length-preserved
loop-length-preserved g c = grind (arith, goes_on)

pub returns-in-None-2-clause-reads : goal.returns-in-None-2-clause-reads
returns-in-None-2-clause-reads g c = is_last _ c.loop-length.invariant (rw c.in-None-2.is at c.in_ok-next_byte.ensures.gives) c.if-length-eq0.false
