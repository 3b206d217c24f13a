use Rattle.rd_program.proofs.viewers.run_scripts_any_book.Goals as goal

pub returns-in_ok-viewed-in-Two-clause-ok : goal.returns-in_ok-viewed-in-Two-clause-ok
returns-in_ok-viewed-in-Two-clause-ok g c = let is = c.in_ok-viewed-in-Two.ensures.ok in rw c.in-Two.is (record { views = is.views; leads = is.leaves; whole = is.text })

pub returns-in_ok-viewed-in-Four-clause-ok : goal.returns-in_ok-viewed-in-Four-clause-ok
returns-in_ok-viewed-in-Four-clause-ok g c = let is = c.in_ok-viewed-in-Four.ensures.ok in rw c.in-Four.is (record { views = is.views; leads = is.leaves; whole = is.text })

pub returns-in_ok-viewed-in-Eight-clause-ok : goal.returns-in_ok-viewed-in-Eight-clause-ok
returns-in_ok-viewed-in-Eight-clause-ok g c = let is = c.in_ok-viewed-in-Eight.ensures.ok in rw c.in-Eight.is (record { views = is.views; leads = is.leaves; whole = is.text })
