use Rattle.std.proofs.Common.{rules}
use Rattle.rd_options.proofs.GetterLemmas.{no_load_file}
use Rattle.rd_options.proofs.command_line.load_options.Goals as goal

pub returns-in_err-file-clause-none : goal.returns-in_err-file-clause-none
returns-in_err-file-clause-none c = λ _. no_load_file c.args.load.now (c.in_err-file.ensures.none (search rules))

pub returns-clause-some : goal.returns-clause-some
returns-clause-some c = c.in_ok-file.ensures.some
