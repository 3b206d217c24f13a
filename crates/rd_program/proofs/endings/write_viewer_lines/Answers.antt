use Rattle.rd_devices.specs.Streams.{sink_stream}
use Rattle.rd_program.proofs.EndingLemmas.{takes_line, takes_part}
use Rattle.rd_program.proofs.endings.write_viewer_lines.Goals as goal

pub returns-in_err-write_viewer_line-clause-lines : goal.returns-in_err-write_viewer_line-clause-lines
returns-in_err-write_viewer_line-clause-lines g c =
    let front = c.loop-i.invariant.1 in
    takes_part (sink_stream g.K.Sink c.args.stream.now c.write_viewer_line.new.stream) (g.K.Sink.contents c.loop-i.stream) front.0 c.args.ends.now c.loop-i.i _ c.loop-i-test.true front.1 front.2
    c.in_err-write_viewer_line.ensures.line c.in_err-write_viewer_line.ensures.fails

pub loop-i-preserved : goal.loop-i-preserved
loop-i-preserved g c =
    let front = c.loop-i.invariant.1 in
    let works = c.in_ok-write_viewer_line.ensures.works in (
      works,
      takes_line (sink_stream g.K.Sink c.args.stream.now c.write_viewer_line.new.stream) (g.K.Sink.contents c.loop-i.stream) front.0 c.args.ends.now c.loop-i.i _ c.loop-i-test.true front.1 front.2
          c.in_ok-write_viewer_line.ensures.line works,
    )
