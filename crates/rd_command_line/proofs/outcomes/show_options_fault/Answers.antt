use Rattle.std.proofs.Common.{refl, inr}
use Rattle.rd_command_line.proofs.outcomes.show_options_fault.Goals as goal

pub returns-in-Ok : goal.returns-in-Ok
returns-in-Ok g c = rw c.in-Shown.is (inr (c.in-Ok.text, c.from.ensures, rw c.as_str.ensures.value at c.show_text.ensures, (refl, c.requires.errors_work)))

pub returns-in-Ok-to_string : goal.returns-in-Ok-to_string
returns-in-Ok-to_string g c =
    rw c.in-Refused.is (inr (c.in-Ok-to_string.text, c.from-in-Ok-to_string.ensures, rw c.as_str-in-Ok-to_string.ensures.value at c.show_text-in-Ok-to_string.ensures, (refl, refl)))

pub returns-in-TooManyFiles : goal.returns-in-TooManyFiles
returns-in-TooManyFiles g c = rw c.in-TooManyFiles.is (c.from-in-TooManyFiles.ensures, c.show_text-in-TooManyFiles.ensures, (refl, refl))
