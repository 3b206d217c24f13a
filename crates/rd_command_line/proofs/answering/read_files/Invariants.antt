use Rattle.std.proofs.Common.{◌≡◌, List, length}
use Rattle.std.specs.Prelude.{vec_len}
use Rattle.rd_command_line.specs.Answering.{AreWholeTexts}
use Rattle.rd_command_line.proofs.answering.read_files.Given as goal

-- each name before this one has its text, which is that of a file that was opened
abbrev pub invariant-loop-name : goal.invariant-loop-name
invariant-loop-name g l =
    (vec_len l.texts ≡ l.name-index)
    × ((files : List g.row.R-File.Denot) × (length files ≡ l.name-index) × AreWholeTexts g.R.File.Read.remaining files l.texts.items)
