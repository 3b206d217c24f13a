use Rattle.rd_journal.proofs.Prelude.{arith, all_entries, take-add, take-take}
use Rattle.rd_journal.proofs.EntryLemmas.{ahead-length, cut_on_rest, border_moved}
use Rattle.rd_journal.proofs.entries.Entries.move_border_forward.Goals as goal

pub returns-clause-live : goal.returns-clause-live
unfolding all_entries
returns-clause-live c = grind (arith, ahead-length, take-add, take-take)

pub returns-clause-ahead : goal.returns-clause-ahead
unfolding all_entries
returns-clause-ahead c = grind (arith, ahead-length, cut_on_rest)

pub returns-clause-kept : goal.returns-clause-kept
unfolding all_entries
returns-clause-kept c = grind (arith, ahead-length, border_moved)
