use Rattle.rd_text.proofs.CallLemmas.{says_commands}
use Rattle.rd_text.proofs.laws.lines_of_commands_say_them.Goals as goal

pub returns : goal.returns
returns c commands each = says_commands commands each
