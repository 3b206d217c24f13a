use Rattle.std.proofs.Common.{rules}
use Rattle.rd_options.proofs.GetterLemmas.{no_run_file, no_run_world}
use Rattle.rd_options.proofs.command_line.run_options.Goals as goal

pub returns-in_err-file-clause-none : goal.returns-in_err-file-clause-none
returns-in_err-file-clause-none c = λ _. no_run_file c.args.run.now (c.in_err-file.ensures.none (search rules))

pub returns-in_err-actors-clause-none : goal.returns-in_err-actors-clause-none
returns-in_err-actors-clause-none c = λ _. no_run_world c.args.run.now (c.in_err-actors.ensures.none (search rules))

pub returns-clause-some : goal.returns-clause-some
returns-clause-some c = (c.in_ok-file.ensures.some, c.in_ok-actors.ensures.some)
