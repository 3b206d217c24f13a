use Rattle.rd_journal.proofs.Prelude.{arith, all_entries}
use Rattle.rd_journal.proofs.EntryLemmas.{all-length, live-length, none_ahead, put_last}
use Rattle.rd_journal.proofs.entries.Entries.push_live.Goals as goal

pub invariant_of-self : goal.invariant_of-self
invariant_of-self c = grind (arith, none_ahead, live-length)

pub returns-clause-live : goal.returns-clause-live
unfolding all_entries
returns-clause-live c = grind (arith, put_last, all-length)

pub returns-clause-ahead : goal.returns-clause-ahead
unfolding all_entries
returns-clause-ahead c = grind (arith, none_ahead)
