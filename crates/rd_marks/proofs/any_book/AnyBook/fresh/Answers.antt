use Rattle.rd_marks.proofs.any_book.AnyBook.fresh.Goals as goal

pub returns-in_ok-fresh_book-in-Two : goal.returns-in_ok-fresh_book-in-Two
returns-in_ok-fresh_book-in-Two c = rw c.in-Two.is c.in_ok-fresh_book-in-Two.ensures

pub returns-in_ok-fresh_book-in-Four : goal.returns-in_ok-fresh_book-in-Four
returns-in_ok-fresh_book-in-Four c = rw c.in-Four.is c.in_ok-fresh_book-in-Four.ensures

pub returns-in_ok-fresh_book-in-Eight : goal.returns-in_ok-fresh_book-in-Eight
returns-in_ok-fresh_book-in-Eight c = rw c.in-Eight.is c.in_ok-fresh_book-in-Eight.ensures
