use Rattle.rd_desk.proofs.Prelude.{arith, AllZip-long, IsDone, IsJoined, IsStarted}
use Rattle.rd_desk.proofs.ChainLemmas.{AllZip-compose}
use Rattle.rd_desk.proofs.threads.fn.run_all.scope.Goals as goal

pub join_all-requires-clause-dones : goal.join_all-requires-clause-dones
join_all-requires-clause-dones g c κs met = let long = AllZip-long _ _ _ c.start_all-started.ensures in (c.requires.dones.0, omega arith)

pub returns : goal.returns
returns g c = let gate = c.captures.gate.now in
    AllZip-compose (IsStarted g.G.Gate.takes g.G.Gate.told gate) (IsJoined g.G.Gate.takes g.G.Gate.told) (λ viewer done. IsDone (g.G.Gate.takes gate) (g.G.Gate.told gate) viewer.0 viewer.1.items done) (λ viewer handle done started joined. joined gate viewer started)
    c.captures.work.items c.start_all-started.result.items c.join_all.result.items c.start_all-started.ensures c.join_all.ensures
