use Rattle.rd_command_line.proofs.AnsweringLemmas.{opens_fresh}
use Rattle.rd_command_line.proofs.answering.opened_book.Goals as goal

pub returns-in-None : goal.returns-in-None
returns-in-None g c = rw c.in-None.is (opens_fresh g.R.File.Read.remaining _ c.fresh_book.result c.fresh_book.ensures.ok c.fresh_book.ensures.err)
