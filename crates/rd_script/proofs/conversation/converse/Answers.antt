-- So far whole lines were read and answered, and their answers were written (`IsGoingOn`). Each
-- way to end adds the last line, or a part of one, and each turn adds one whole line.
use Rattle.rd_script.proofs.Prelude.{[], ◌∷◌, ◌∙◌, arith, inl, inr, sym, true≢false, Converses}
use Rattle.rd_devices.proofs.ResultLemmas.{passed_up}
use Rattle.rd_script.proofs.ConversationLemmas.{starts, came_to_end, stopped_at_read, stopped_endless, goes_on, came_to_last, stopped_at_write, line_more, last_line_more, whole_more, ended-whole}
use Rattle.rd_script.proofs.conversation.converse.Goals.{in-Last, in-Ended}
use Rattle.rd_script.proofs.conversation.converse.Goals as goal

pub loop-done-init : goal.loop-done-init
loop-done-init g c = record { going_on = starts g.A.Answerer.text_of g.A.Answerer.answers _ _ _ _ _ c.requires.reader_works c.requires.writer_works; ready = c.requires.ready }

pub returns-in_err-read_next : goal.returns-in_err-read_next
returns-in_err-read_next g c =
    let stopped = stopped_at_read g.A.Answerer.text_of g.A.Answerer.answers _ c.loop-done.answerer _ _ c.loop-done.invariant.going_on (g.S.Source.bytes c.read_next.new.reader) (g.S.Source.has_failed c.read_next.new.reader) c.read_next.new.self c.in_err-read_next.field-0.0 c.in_err-read_next.ensures.reads in
    record { converses = passed_up (Converses _ _ _) c.in_err-read_next.field-0.0 c.from_residual.result c.from_residual.ensures.1 stopped; ready = c.loop-done.invariant.ready }

pub returns-in-End : goal.returns-in-End
returns-in-End g c =
    let read = rw c.in-End.is at c.in_ok-read_next.ensures.reads in
    record { converses = came_to_end g.A.Answerer.text_of g.A.Answerer.answers _ c.loop-done.answerer _ _ c.loop-done.invariant.going_on _ _ read.0 read.1 c.in_ok-read_next.ensures.works; ready = c.loop-done.invariant.ready }

pub returns : goal.returns
returns g c = record { converses = stopped_endless g.A.Answerer.text_of g.A.Answerer.answers _ c.loop-done.answerer _ _ c.loop-done.invariant.going_on (omega arith); ready = c.loop-done.invariant.ready }

pub loop-done-preserved : goal.loop-done-preserved
loop-done-preserved g c = elim c.match-branch-2.branch [
  | in-Last w ↦ absurd (true≢false (sym w.is_last-is ∙ c.if-is_last.false))
  | in-Ended w ↦
      let read = rw w.in-Ended.is at c.in_ok-read_next.ensures.reads in
      let did = c.answer.ensures.answers read.text read.held in
      record {
        going_on = goes_on g.A.Answerer.text_of g.A.Answerer.answers _ c.loop-done.answerer _ _ c.loop-done.invariant.going_on read.text did.0 c.answer.new.self did.1
            _ _ _ _ read.is_one read.took (rw (c.as_slice.ensures.value, did.2) at c.in_ok-write_all.ensures.ok) c.in_ok-read_next.ensures.works c.in_ok-write_all.ensures.works;
        ready = c.answer.ensures.ready;
      }
]

pub returns-then-is_last-clause-converses : goal.returns-then-is_last-clause-converses
returns-then-is_last-clause-converses g c = elim c.match-branch-2.branch [
  | in-Last w ↦
      let last = rw w.in-Last.is at c.in_ok-read_next.ensures.reads in
      let did = c.answer.ensures.answers last.read.text last.read.held in
      came_to_last g.A.Answerer.text_of g.A.Answerer.answers _ c.loop-done.answerer _ _ c.loop-done.invariant.going_on last.read.text did.0 c.answer.new.self did.1
      _ _ _ _ last.read.is_one last.some last.ended last.read.took (rw (c.as_slice.ensures.value, did.2) at c.in_ok-write_all.ensures.ok) c.in_ok-read_next.ensures.works c.in_ok-write_all.ensures.works
  | in-Ended w ↦ absurd (true≢false (sym c.if-is_last.true ∙ w.is_last-is))
]

pub returns-in_err-write_all-clause-converses : goal.returns-in_err-write_all-clause-converses
returns-in_err-write_all-clause-converses g c =
    let fault = c.in_err-write_all.field-0.0 in
    let going = c.loop-done.invariant.going_on in
    elim c.match-branch-2.branch [
      | in-Last w ↦
          let last = rw w.in-Last.is at c.in_ok-read_next.ensures.reads in
          let did = c.answer.ensures.answers last.read.text last.read.held in
          let all = last_line_more going.given last.read.text going.whole last.read.is_one last.some in
          passed_up (Converses _ _ _) fault c.from_residual-in_err-write_all.result c.from_residual-in_err-write_all.ensures.1 (rw c.in_err-write_all.ensures.fault (stopped_at_write g.A.Answerer.text_of g.A.Answerer.answers _ c.loop-done.answerer _ _ going last.read.text did.0 c.answer.new.self did.1
          [] (g.S.Source.bytes c.read_next.new.reader) (g.K.Sink.contents c.write_all.new.writer) _ _ last.read.took all (inr last.ended)
          (rw (← did.2, ← c.as_slice.ensures.value) c.in_err-write_all.ensures.err) c.in_ok-read_next.ensures.works c.in_err-write_all.ensures.fails))
      | in-Ended w ↦
          let read = rw w.in-Ended.is at c.in_ok-read_next.ensures.reads in
          let did = c.answer.ensures.answers read.text read.held in
          passed_up (Converses _ _ _) fault c.from_residual-in_err-write_all.result c.from_residual-in_err-write_all.ensures.1 (rw c.in_err-write_all.ensures.fault (stopped_at_write g.A.Answerer.text_of g.A.Answerer.answers _ c.loop-done.answerer _ _ going read.text did.0 c.answer.new.self did.1
          (10 ∷ []) (g.S.Source.bytes c.read_next.new.reader) (g.K.Sink.contents c.write_all.new.writer) _ _ read.took (line_more going.given read.text going.whole read.is_one) (inl (ended-whole _ (whole_more going.given read.text going.whole read.is_one)))
          (rw (← did.2, ← c.as_slice.ensures.value) c.in_err-write_all.ensures.err) c.in_ok-read_next.ensures.works c.in_err-write_all.ensures.fails))
    ]
