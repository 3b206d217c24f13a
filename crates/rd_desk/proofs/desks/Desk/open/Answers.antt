use Rattle.rd_desk.proofs.desks.Desk.open.Goals as goal

pub returns-in-Ok-opened-clause-ok : goal.returns-in-Ok-opened-clause-ok
returns-in-Ok-opened-clause-ok g c = rw c.in-Ok.ensures.opened at c.in-Ok-opened.ensures.ok
