use Rattle.rd_journal.proofs.Prelude.{◌-◌, drop, live_entries, arith, length-take-le, all_entries}
use Rattle.rd_journal.proofs.RoomLemmas.{fits_first}
use Rattle.rd_journal.proofs.Numbers.{at-length, order_below}
use Rattle.rd_journal.proofs.EntryLemmas.{live-length}
use Rattle.rd_journal.proofs.entries.Entries.gather_closure.Goals as goal

pub move_closure_last-requires-clause-room : goal.move_closure_last-requires-clause-room
unfolding all_entries
move_closure_last-requires-clause-room c = grind (arith, fits_first c.args.index.now (drop (c.args.k - 1) (live_entries c.args.self.now)) _ c.requires.room)

pub returns-clause-len : goal.returns-clause-len
unfolding all_entries
returns-clause-len c = grind (arith, live-length, at-length, order_below, length-take-le)
