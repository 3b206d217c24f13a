use Rattle.rd_marks.proofs.Prelude.{◌≡◌, [], arith, BookState, book_state}
use Rattle.rd_step.proofs.Prelude.{World}
use Rattle.rd_journal.proofs.Prelude.{State}
use Rattle.rd_marks.proofs.any_book.fresh_book.Goals as goal

-- a book that was opened over a session that was opened in a world
opened : (b : BookState) (s : State) (v w : World) → b.session ≡ s → b.marks ≡ [] → s ≡ record { start = v; live = []; undone = [] } → v ≡ w
    → b ≡ record { session = record { start = w; live = []; undone = [] }; marks = [] }
opened b s v w session marks state world = grind arith

pub returns : goal.returns
returns g c = opened (book_state c.open-2.result) _ _ _ c.open-2.ensures.session c.open-2.ensures.marks c.open.ensures.state c.in-Ok.ensures.ok
