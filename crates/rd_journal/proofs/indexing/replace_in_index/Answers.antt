use Rattle.rd_journal.proofs.Prelude.{arith, err_then, length-take-le, not_refused}
use Rattle.rd_journal.proofs.indexing.replace_in_index.Goals as goal

pub fill_index-requires-clause-room : goal.fill_index-requires-clause-room
fill_index-requires-clause-room c = grind (arith, err_then, length-take-le)

pub returns-then-is_err-clause-lacks : goal.returns-then-is_err-clause-lacks
returns-then-is_err-clause-lacks c = grind (arith, not_refused)
