use Rattle.rd_program.proofs.live.run_live_any_book.Goals as goal

pub returns-in_ok-live-in-Two-clause-ok : goal.returns-in_ok-live-in-Two-clause-ok
returns-in_ok-live-in-Two-clause-ok g c = let is = c.in_ok-live-in-Two.ensures.ok in rw c.in-Two.is (record { leads = is.leaves; named = is.named; ended = is.ended })

pub returns-in_ok-live-in-Four-clause-ok : goal.returns-in_ok-live-in-Four-clause-ok
returns-in_ok-live-in-Four-clause-ok g c = let is = c.in_ok-live-in-Four.ensures.ok in rw c.in-Four.is (record { leads = is.leaves; named = is.named; ended = is.ended })

pub returns-in_ok-live-in-Eight-clause-ok : goal.returns-in_ok-live-in-Eight-clause-ok
returns-in_ok-live-in-Eight-clause-ok g c = let is = c.in_ok-live-in-Eight.ensures.ok in rw c.in-Eight.is (record { leads = is.leaves; named = is.named; ended = is.ended })
