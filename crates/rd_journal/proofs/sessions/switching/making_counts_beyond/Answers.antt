use Rattle.rd_journal.proofs.Prelude.{set, arith, length-set, take_all}
use Rattle.rd_journal.proofs.Switching.{making_missed, no_making_missed}
use Rattle.rd_journal.proofs.sessions.switching.making_counts_beyond.Goals as goal
use Rattle.rd_journal.proofs.sessions.switching.making_counts_beyond.Goals.{in-Some, in_default}

pub loop-position-preserved : goal.loop-position-preserved
loop-position-preserved c = grind (arith, in-Some, length-set, set, making_missed, in_default, no_making_missed)

pub returns : goal.returns
returns c = grind (arith, take_all)
