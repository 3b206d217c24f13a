use Rattle.rd_depend.specs.Index.{HasRoomFor}
use Rattle.rd_journal_tests.proofs.tests.dependence.index.Both.push_after_pops.Given as goal

abbrev pub invariant-loop : goal.invariant-loop
invariant-loop l = HasRoomFor l.both.index l.entries
