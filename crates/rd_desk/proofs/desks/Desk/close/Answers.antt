use Rattle.rd_desk.proofs.Prelude.{sym, subst, IsLeftBy, book_state, entries}
use Rattle.rd_desk.proofs.desks.Desk.close.Goals as goal

pub returns-clause-leaves : goal.returns-clause-leaves
returns-clause-leaves g c = let kept = c.in_ok-kept.kept in
    subst (λ b. IsLeftBy (book_state b) (entries kept.history) c.into_inner.result) c.in_ok-kept.ensures.rooted
    (subst (λ b. IsLeftBy (book_state kept.opened.value) (entries kept.history) b) (sym c.into_inner.ensures) kept.legal)
