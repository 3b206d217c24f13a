use Rattle.rd_script.proofs.script.run_any_book.Goals as goal

pub returns-in-Two-clause-runs : goal.returns-in-Two-clause-runs
returns-in-Two-clause-runs g c = rw c.in-Two.is c.run.ensures.runs

pub returns-in-Four-clause-runs : goal.returns-in-Four-clause-runs
returns-in-Four-clause-runs g c = rw c.in-Four.is c.run-in-Four.ensures.runs

pub returns-in-Eight-clause-runs : goal.returns-in-Eight-clause-runs
returns-in-Eight-clause-runs g c = rw c.in-Eight.is c.run-in-Eight.ensures.runs
