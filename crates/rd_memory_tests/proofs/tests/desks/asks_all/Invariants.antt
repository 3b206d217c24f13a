use Rattle.rd_desk.specs.Desks.{IsViewerOf}
use Rattle.rd_memory_tests.proofs.tests.desks.asks_all.Given as goal

abbrev pub invariant-loop-line : goal.invariant-loop-line
invariant-loop-line g l = record { own : IsViewerOf l.desk l.pass }
