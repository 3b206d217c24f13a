use Rattle.rd_desk.specs.Desks.{IsViewerOf}
use Rattle.rd_view_tests.proofs.tests.busy.ask_until.Given as goal

-- the pass is one of the desk's
abbrev pub invariant-loop-call : goal.invariant-loop-call
invariant-loop-call g l = record { own : IsViewerOf l.desk l.pass }
