use Rattle.rd_desk.specs.Desks.{IsViewerOf}
use Rattle.rd_view_tests.proofs.tests.ends.the_100_001st_call_finds_the_history_full.Given as goal

abbrev pub invariant-loop-call : goal.invariant-loop-call
invariant-loop-call g l = record { own : IsViewerOf l.desk l.pass }
