use Rattle.std.proofs.Common.{rules, codes}
use Rattle.rd_options.proofs.GetterLemmas.{first_value_in_rows, no_value}
use Rattle.rd_options.proofs.command_line.file_and_trace.Goals as goal

pub returns-in_err-file-clause-none : goal.returns-in_err-file-clause-none
returns-in_err-file-clause-none c = λ _ file _ tells. no_value c.args.matches.now (codes "file") file c.in_err-file.ensures tells.0

pub returns-in_err-trace-clause-none : goal.returns-in_err-trace-clause-none
returns-in_err-trace-clause-none c = λ _ _ trace tells. c.in_err-trace.ensures.none (search rules) trace tells.1

pub returns-clause-some : goal.returns-clause-some
returns-clause-some c = (first_value_in_rows c.args.matches.now _ _ c.in_ok-file.ensures, c.in_ok-trace.ensures.some)
