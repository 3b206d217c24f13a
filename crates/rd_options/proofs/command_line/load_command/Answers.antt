use Rattle.std.proofs.Common.{arith}
use Rattle.std.proofs.lemmas.Grind.{common_steps}
use Rattle.rd_options.proofs.command_line.load_command.Goals as goal

pub returns-in_err-arg-clause-app : goal.returns-in_err-arg-clause-app
returns-in_err-arg-clause-app c = grind (arith, common_steps)

pub returns-in_err-arg-clause-local : goal.returns-in_err-arg-clause-local
returns-in_err-arg-clause-local c = grind (arith, common_steps)

pub returns-clause-app : goal.returns-clause-app
returns-clause-app c = grind (arith, common_steps)

pub returns-clause-local : goal.returns-clause-local
returns-clause-local c = grind (arith, common_steps)
