use Rattle.rd_journal.proofs.Prelude.{common_steps, all_entries, arith}
use Rattle.rd_journal.proofs.Numbers.{at-take, order_below}
use Rattle.rd_journal.proofs.entries.Entries.first_kept.Goals as goal

pub new-requires : goal.new-requires
new-requires c = grind (arith, common_steps, order_below)

pub returns : goal.returns
unfolding all_entries
returns c = grind (arith, order_below, at-take)
