use Rattle.rd_view.proofs.tasks.run_in_scope.Goals as goal

pub returns : goal.returns
returns g c = c.scoped.ensures.1
