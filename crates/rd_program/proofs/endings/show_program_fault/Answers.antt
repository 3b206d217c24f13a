use Rattle.std.proofs.Common.{rules}
use Rattle.rd_program.proofs.endings.show_program_fault.Goals as goal

pub returns-in-Err : goal.returns-in-Err
returns-in-Err g c = rw c.in-Err.is (search rules, rw (c.as_slice-in-Err.ensures.value, c.set_answer.ensures, c.refusal.ensures) at c.write_error_line.ensures.line)
