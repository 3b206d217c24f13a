use Rattle.rd_desk.proofs.Prelude.{arith, AllZip-long}
use Rattle.rd_desk.proofs.ChainLemmas.{all_ran}
use Rattle.rd_desk.proofs.viewers.run_viewers.Goals as goal

pub returns-clause-ok : goal.returns-clause-ok
returns-clause-ok g c = let gate = c.args.gate.now in rw c.run_endings.ensures (all_ran (g.G.Gate.takes gate) (g.G.Gate.told gate) c.args.work.items c.in_ok-dones.dones.items c.in_ok-dones.ensures.ok)

pub run_endings-requires-after_bounds : goal.run_endings-requires-after_bounds
run_endings-requires-after_bounds g c κs within =
    let long = AllZip-long _ _ _ c.in_ok-dones.ensures.ok in let room = c.in-Ok.ensures.capacity in let len = c.len.ensures in
    (c.in-Ok.ensures.items, omega arith)
