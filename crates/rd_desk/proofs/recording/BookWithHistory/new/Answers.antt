use Rattle.rd_desk.proofs.Prelude.{sym, ap, ◌∙◌, book_state}
use Rattle.rd_desk.proofs.HistoryLemmas.{left_by_no_call}
use Rattle.rd_desk.proofs.recording.BookWithHistory.new.Goals as goal

pub invariant_of-result-clause-legal : goal.invariant_of-result-clause-legal
invariant_of-result-clause-legal g c = left_by_no_call _ c.in-Ok.book.value _ c.new-in-Ok.ensures.items (ap book_state (c.in-Ok.ensures.ok ∙ sym c.of-opened.ensures))
