use Rattle.rd_journal.proofs.Prelude.{journal}
use Rattle.rd_journal.proofs.Ahead.{is_session}
use Rattle.rd_journal.proofs.Calls.{back_start, before_last}
use Rattle.rd_journal.proofs.sessions.Session.back.Goals as goal

pub returns-clause-run : goal.returns-clause-run
returns-clause-run g c =
    before_last c.args.n (journal c.args.self.now) (journal c.undo_last.new.self) c.undo_last.ensures.entries
    (is_session c.undo_last.new.self).runs (back_start _ c.args.n _ c.undo_last.ensures.state)
