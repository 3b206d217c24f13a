use Rattle.rd_view.proofs.Prelude.{number_of}
use Rattle.rd_desk.specs.contracts.recording.BookWithHistoryRecorded.TheImpl as Recorded
use Rattle.rd_view.proofs.LiveLemmas.{live_done}
use Rattle.rd_view.proofs.live.LiveTaskDeskPassTask.run.Goals as goal

pub returns : goal.returns
returns g c = let ended = c.converse-ended in record {
  runs = live_done g.row.N (Recorded.ghosts (number_of g.row.N)) c.args.self.desk.now g.T.Terminal.opens g.T.Reader.Source g.T.Writer.Sink ended.new.answerer _ (λ v. v.desk) (λ d. d.now) (λ v. v.pass) c.args.self.terminal.value
      c.in-Ok.ends.0 ended.new.reader c.in-Ok.ends.1 ended.new.writer ended.result (rw c.into_inner.ensures at c.in-Ok.ensures.opens) ended.ensures.ready ended.ensures.converses;
}
