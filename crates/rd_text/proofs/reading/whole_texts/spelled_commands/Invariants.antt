use Rattle.rd_text.proofs.Prelude.{◌≡◌, ◌++◌, drop, commands_of}
use Rattle.rd_text.proofs.reading.whole_texts.spelled_commands.Given as goal

-- the commands so far, and those of the lines after them
abbrev pub invariant-loop-line : goal.invariant-loop-line
invariant-loop-line l = commands_of l.said ≡ l.commands.items ++ commands_of (drop l.line-index l.said)
