use Rattle.std.specs.List.{AllByRecursion}
use Rattle.rd_desk.specs.Desks.{IsNewViewer, IsViewerOf}
use Rattle.rd_view_tests.proofs.tests.threads.work_of.Given as goal

abbrev pub invariant-loop-viewer : goal.invariant-loop-viewer
invariant-loop-viewer g l = record {
  new : AllByRecursion (IsNewViewer l.desk) l.passes.items;
  own : AllByRecursion (λ viewer. IsViewerOf l.desk viewer.0) l.work.items;
}
