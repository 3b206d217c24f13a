use Rattle.std.proofs.Common.{inr}
use Rattle.rd_marks.specs.AnyBook.{any_state}
use Rattle.rd_devices.specs.Streams.{reader_source, sink_stream, writer_sink}
use Rattle.rd_command_line.specs.Answering.{OpensFiles}
use Rattle.rd_command_line.proofs.LiveLemmas.{views_named}
use Rattle.rd_command_line.proofs.answering.view_files_live.Goals as goal

pub returns : goal.returns
returns g c =
    let remaining = g.R.File.Read.remaining in
    let contents = g.R.File.Write.contents in
    let named =
    views_named (λ terminal. terminal.name.now) (λ terminal. OpensFiles remaining contents) (λ name. OpensFiles remaining contents) (reader_source remaining) (writer_sink contents) (λ s r w opens. opens)
    (any_state c.in_ok-book.book) c.in-Ok.terminals.items c.args.extras (sink_stream g.O.Sink c.args.output.now c.view_live.new.writer) c.view_live.result c.view_live.ensures.views in
    inr (c.in_ok-book.book, c.in_ok-book.ensures, rw c.in-Ok.ensures.names at named)
