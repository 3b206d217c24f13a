use Rattle.rd_journal.proofs.Prelude.{arith, all_entries, drop_at, take_at, length-append, length-drop, length-take-le}
use Rattle.rd_journal.proofs.Numbers.{at-moved_to, count-moved_to, order_below}
use Rattle.rd_journal.proofs.EntryLemmas.{all-length, live-length, border-moved_to}
use Rattle.rd_journal.proofs.entries.Entries.make_next_ahead.Goals as goal

pub invariant_of-self : goal.invariant_of-self
invariant_of-self c = grind (arith, live-length, length-take-le, length-drop, length-append, count-moved_to)

pub returns-clause-live : goal.returns-clause-live
unfolding all_entries
returns-clause-live c = grind (arith, live-length, all-length, order_below, at-moved_to, length-take-le, length-append, length-drop, take_at)

pub returns-clause-ahead : goal.returns-clause-ahead
unfolding all_entries
returns-clause-ahead c = grind (arith, live-length, all-length, order_below, at-moved_to, border-moved_to)

pub returns-clause-kept : goal.returns-clause-kept
returns-clause-kept c = grind (arith, returns-clause-live, returns-clause-ahead, take_at, drop_at)
