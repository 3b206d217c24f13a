use Rattle.std.proofs.Common.{◌++◌, ◌∷◌, [], length-append, arith}
use Rattle.rd_command_line.proofs.AnsweringLemmas.{one_more_text}
use Rattle.rd_command_line.proofs.answering.read_files.Goals as goal

pub loop-name-preserved : goal.loop-name-preserved
loop-name-preserved g c =
    let file = c.in_ok-file.file in
    let before = c.loop-name.invariant.1 in
    let texts = one_more_text g.R.File.Read.remaining before.0 c.loop-name.texts.items file c.in_ok-text.text before.2 c.in_ok-text.ensures.ok in
    (omega (arith, c.in-Ok.ensures.len, c.loop-name.invariant.0), (before.0 ++ file ∷ [], omega (arith, length-append before.0 (file ∷ []), before.1), rw c.in-Ok.ensures.items texts))
