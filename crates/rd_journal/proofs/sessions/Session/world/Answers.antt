use Rattle.rd_journal.proofs.Ahead.{is_session}
use Rattle.rd_journal.proofs.Calls.{opened_ring}
use Rattle.rd_journal.proofs.sessions.Session.world.Goals as goal

pub returns-clause-ring : goal.returns-clause-ring
returns-clause-ring g c = opened_ring c.args.self.now.opened

pub returns-clause-runs : goal.returns-clause-runs
returns-clause-runs g c = (is_session c.args.self.now).runs

pub returns-clause-few : goal.returns-clause-few
returns-clause-few g c = (is_session c.args.self.now).few
