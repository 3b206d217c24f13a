use Rattle.rd_view.proofs.Prelude.{arith, AllZip-long, IsTaskEnd, IsTaskJoined, IsTaskStarted}
use Rattle.rd_desk.proofs.ChainLemmas.{AllZip-compose}
use Rattle.rd_view.proofs.tasks.fn.run_in_scope.scope.Goals as goal

pub join_tasks-requires-clause-ends : goal.join_tasks-requires-clause-ends
join_tasks-requires-clause-ends g c κs met = let long = AllZip-long _ _ _ c.start_tasks-started.ensures in (c.requires.ends.0, omega arith)

pub returns : goal.returns
returns g c =
    AllZip-compose (IsTaskStarted g.T.Task.runs) (IsTaskJoined g.T.Task.runs) (IsTaskEnd g.T.Task.runs) (λ task handle end started joined. joined task started)
    c.captures.tasks.items c.start_tasks-started.result.items c.join_tasks.result.items c.start_tasks-started.ensures c.join_tasks.ensures
