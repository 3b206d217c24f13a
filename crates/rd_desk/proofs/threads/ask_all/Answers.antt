use Rattle.rd_desk.proofs.Prelude.{arith, common_steps}
use Rattle.rd_desk.proofs.ChainLemmas.{one_more_told}
use Rattle.rd_desk.proofs.threads.ask_all.Goals as goal

pub loop-command-preserved : goal.loop-command-preserved
loop-command-preserved g c = record {
  own = c.ask-answer.ensures.own;
  chain = rw c.push_reserved.ensures.items (one_more_told (g.G.Gate.told c.args.gate.now) c.args.pass c.loop-command.pass _ c.loop-command.yielded c.loop-command.answers.items c.in-Some.command _ c.loop-command.invariant.chain c.ask-answer.ensures.told);
  len = grind (arith, common_steps);
  capacity = omega arith;
}
