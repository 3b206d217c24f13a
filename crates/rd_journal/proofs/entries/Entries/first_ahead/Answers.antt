use Rattle.rd_journal.proofs.Prelude.{arith, drop-take, length-take-le, take-take}
use Rattle.rd_journal.proofs.EntryLemmas.{all-length, ahead-length}
use Rattle.rd_journal.proofs.entries.Entries.first_ahead.Goals as goal

pub after-requires : goal.after-requires
after-requires c = grind (arith, length-take-le, all-length, ahead-length)

pub returns : goal.returns
returns c = grind (arith, drop-take, take-take, ahead-length)
