use Rattle.rd_desk.proofs.threads.run_all.Goals as goal

pub returns : goal.returns
returns g c = c.scoped.ensures.1
