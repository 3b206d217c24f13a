use Rattle.rd_journal.proofs.Prelude.{arith, common_steps}
use Rattle.rd_journal.proofs.indexing.fill_index.Goals as goal

pub len-next-requires : goal.len-next-requires
len-next-requires c = grind (arith, common_steps)

pub kept_len-next-end-requires : goal.kept_len-next-end-requires
kept_len-next-end-requires c = grind (arith, common_steps)

pub kept_at-requires : goal.kept_at-requires
kept_at-requires c = grind (arith, common_steps)

pub push_reserved-requires-clause-few : goal.push_reserved-requires-clause-few
push_reserved-requires-clause-few c = grind (arith, common_steps)

pub push_reserved-requires-clause-room : goal.push_reserved-requires-clause-room
push_reserved-requires-clause-room c = grind (arith, common_steps)

pub loop-next-preserved : goal.loop-next-preserved
loop-next-preserved c = grind (arith, common_steps)

pub returns : goal.returns
returns c = grind (arith, common_steps)
