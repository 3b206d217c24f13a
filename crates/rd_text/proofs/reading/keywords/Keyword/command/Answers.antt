use Rattle.std.proofs.Common.{arith}
use Rattle.rd_text.proofs.NameReadLemmas.{names_refused}
use Rattle.rd_text.proofs.reading.keywords.Keyword.command.Goals as goal

pub returns-in_err-only_name-in-Mark : goal.returns-in_err-only_name-in-Mark
returns-in_err-only_name-in-Mark c = grind (arith, names_refused)

pub returns-in_err-only_name-in-Drop : goal.returns-in_err-only_name-in-Drop
returns-in_err-only_name-in-Drop c = grind (arith, names_refused)

pub returns-in_err-only_name-in-Goto : goal.returns-in_err-only_name-in-Goto
returns-in_err-only_name-in-Goto c = grind (arith, names_refused)

pub returns-in_err-one-in-Same : goal.returns-in_err-one-in-Same
returns-in_err-one-in-Same c = grind (arith, names_refused)
