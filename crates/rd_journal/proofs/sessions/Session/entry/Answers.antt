use Rattle.rd_journal.proofs.Prelude.{◌-◌, inl, inr, arith, journal}
use Rattle.rd_journal.proofs.Ahead.{is_session}
use Rattle.rd_journal.proofs.Calls.{entry_missing, entry_found}
use Rattle.rd_journal.proofs.LawLemmas.{step_after}
use Rattle.rd_journal.proofs.sessions.Session.entry.Goals as goal
use Rattle.rd_journal.proofs.sessions.Session.entry.Goals.{then-k-eq0-via-then-k-eq0, then-k-eq0-via-else-k-eq0+then-k-len}

pub returns-then-k-eq0-clause-found : goal.returns-then-k-eq0-clause-found
returns-then-k-eq0-clause-found g c =
    entry_missing (journal c.args.self.now) c.len-len.result c.args.k c.len-len.ensures.entries
    (elim c.then-k-eq0.branch [ then-k-eq0-via-then-k-eq0 w ↦ inl (omega arith) | then-k-eq0-via-else-k-eq0+then-k-len w ↦ inr (omega arith) ])

pub returns-clause-found : goal.returns-clause-found
returns-clause-found g c =
    let x = c.live_at.result.now in
    entry_found (journal c.args.self.now) c.args.k x (omega arith) (omega (arith, c.len-len.ensures.entries)) c.live_at.ensures

pub returns-clause-step : goal.returns-clause-step
returns-clause-step g c = grind (arith, step_after, is_session)

pub returns-then-k-eq0-clause-runs : goal.returns-then-k-eq0-clause-runs
returns-then-k-eq0-clause-runs g c = (is_session c.args.self.now).runs

pub returns-clause-runs : goal.returns-clause-runs
returns-clause-runs g c = (is_session c.args.self.now).runs
