use Rattle.rd_desk.specs.Desks.{IsViewerOf}
use Rattle.rd_view_tests.proofs.tests.busy.try_until_busy.Given as goal

-- the pass is one of the desk's
abbrev pub invariant-loop-call : goal.invariant-loop-call
invariant-loop-call l = record { own : IsViewerOf l.desk l.pass }
