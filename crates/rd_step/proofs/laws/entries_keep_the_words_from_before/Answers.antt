use Rattle.rd_step.proofs.OldWords.{keeps_old_words}
use Rattle.rd_step.proofs.laws.entries_keep_the_words_from_before.Goals as goal

pub returns : goal.returns
returns c = keeps_old_words
