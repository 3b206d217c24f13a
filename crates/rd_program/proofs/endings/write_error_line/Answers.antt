use Rattle.std.proofs.Common.{codes}
use Rattle.rd_devices.specs.Streams.{sink_stream}
use Rattle.rd_program.proofs.EndingLemmas.{takes_both, takes_front}
use Rattle.rd_program.proofs.endings.write_error_line.Goals as goal

pub returns-in_err-write_all-clause-line : goal.returns-in_err-write_all-clause-line
returns-in_err-write_all-clause-line g c =
    takes_front (sink_stream g.K.Sink c.args.stream.now c.write_all.new.writer) (codes "lcrqdb: ") c.args.line.now c.in_err-write_all.ensures.fails c.in_err-write_all.ensures.err

pub returns-clause-line : goal.returns-clause-line
returns-clause-line g c =
    let s = sink_stream g.K.Sink c.args.stream.now c.write_all-2.new.writer in
    takes_both s (g.K.Sink.contents c.write_all.new.writer) (codes "lcrqdb: ") c.args.line.now c.write_all-2.result c.in_ok-write_all.ensures.ok
    c.write_all-2.ensures.ok c.write_all-2.ensures.err c.write_all-2.ensures.works c.write_all-2.ensures.fails
