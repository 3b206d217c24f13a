use Rattle.rd_journal.proofs.LawLemmas.{redone_last}
use Rattle.rd_journal.proofs.laws.a_step_undone_alone_and_redone_is_the_last.Goals as goal

pub returns : goal.returns
returns c = redone_last
