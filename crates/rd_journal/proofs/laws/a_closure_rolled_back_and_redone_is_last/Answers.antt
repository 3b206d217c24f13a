use Rattle.rd_journal.proofs.LawLemmas.{closure_redone}
use Rattle.rd_journal.proofs.laws.a_closure_rolled_back_and_redone_is_last.Goals as goal

pub returns : goal.returns
returns c = closure_redone
