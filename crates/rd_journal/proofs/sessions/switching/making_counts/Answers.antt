use Rattle.rd_journal.proofs.Prelude.{arith, refl, get_or-replicate, length-set, length-take}
use Rattle.rd_journal.proofs.Switching.{making_counted, no_making_counted, returned_few}
use Rattle.rd_journal.proofs.sessions.switching.making_counts.Goals as goal
use Rattle.rd_journal.proofs.sessions.switching.making_counts.Goals.{in-Some, in_default}

pub loop-entry-init : goal.loop-entry-init
loop-entry-init c = record { long = refl; counted = λ m small. get_or-replicate 256 m 0 0 small }

pub overflow_add-counts : goal.overflow_add-counts
overflow_add-counts c = grind (arith, returned_few, length-take)

pub loop-entry-preserved : goal.loop-entry-preserved
loop-entry-preserved c = grind (arith, in-Some, length-set, making_counted, in_default, no_making_counted)
