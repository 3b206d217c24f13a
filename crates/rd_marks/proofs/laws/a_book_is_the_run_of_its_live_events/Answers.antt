use Rattle.rd_marks.proofs.Headlines.{book_runs}
use Rattle.rd_marks.proofs.laws.a_book_is_the_run_of_its_live_events.Goals as goal

pub returns : goal.returns
returns g c = book_runs c.args.book.now
