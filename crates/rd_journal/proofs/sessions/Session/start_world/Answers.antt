use Rattle.rd_journal.proofs.Prelude.{sym, subst, arith, World, model, LeadsTo, journal}
use Rattle.rd_journal.proofs.Ahead.{is_session}
use Rattle.rd_journal.proofs.Runs.{live_lead, led_nowhere}
use Rattle.rd_journal.proofs.sessions.Session.start_world.Goals as goal

pub undo_after-requires : goal.undo_after-requires
undo_after-requires g c =
    let j = journal c.args.self.now in (
      omega (arith, c.in_ok-world.world.small),
      (
        omega arith,
        (
          j.start,
          subst (λ (w : World). LeadsTo j.start w c.live.result) (sym c.in_ok-world.ensures.ok)
              (live_lead j c.live.result (is_session c.args.self.now).runs c.live.ensures.entries),
        ),
      ),
    )

pub returns-clause-ok : goal.returns-clause-ok
returns-clause-ok g c =
    let j = journal c.args.self.now in
    led_nowhere j.start (model c.undo_after.new.world) (c.undo_after.ensures.leads j.start
    (subst (λ (w : World). LeadsTo j.start w c.live.result) (sym c.in_ok-world.ensures.ok)
    (live_lead j c.live.result (is_session c.args.self.now).runs c.live.ensures.entries)))
