use Rattle.std.proofs.Common.{drop}
use Rattle.rd_depend.specs.Index.{HasRoomFor}
use Rattle.rd_journal_tests.proofs.tests.dependence.index.push_in_room.Given as goal

abbrev pub invariant-loop-at : goal.invariant-loop-at
invariant-loop-at l = HasRoomFor l.index (drop l.at l.entries)
