use Rattle.rd_view.proofs.Prelude.{◌≡◌, ◌∙◌, entries, book_state, view_text, ViewOf}
use Rattle.rd_view.proofs.viewing.view_scripts.Given.{Over}
use Rattle.rd_view.proofs.viewing.view_scripts.Goals.{After-as_slice}
use Rattle.rd_view.proofs.viewing.view_scripts.Goals as goal

-- the text that is handed over is that of the view
handed : (g : Over) (c : After-as_slice g)
    → (views : ViewOf (book_state c.args.book) c.args.scripts.now (entries c.in_ok-text.field-0.history)) × (c.as_slice.result.now ≡ view_text (book_state c.args.book) views)
handed g c = let made = c.in_ok-text.ensures.ok in (made.views, c.as_slice.ensures.value ∙ made.text)

pub returns : goal.returns
returns g c = let is = handed g (goal.at.returns g c).After-as_slice in record { views = (entries c.in_ok-text.field-0.history, is.0, rw is.1 at c.in-Err.ensures.err, c.in-Err.ensures.fails) }

pub returns-in-Ok : goal.returns-in-Ok
returns-in-Ok g c = let is = handed g (goal.at.returns-in-Ok g c).After-as_slice in record { views = (is.0, rw is.1 at c.in-Ok.ensures.ok, c.in-Ok.ensures.works) }
