use Rattle.std.proofs.Common.{inr, length}
use Rattle.std.proofs.KnownBytes.{Keeps-refl}
use Rattle.rd_devices.specs.Streams.{sink_stream}
use Rattle.rd_command_line.proofs.AnsweringLemmas.{not_viewed}
use Rattle.rd_command_line.proofs.answering.view_files.Goals as goal

pub returns-in_err-texts-in-Some : goal.returns-in_err-texts-in-Some
returns-in_err-texts-in-Some g c =
    not_viewed g.R.File.Read.remaining c.args.start (length c.args.names.now) _ c.args.extras (sink_stream g.O.Sink c.args.output.now c.args.output.now) c.in_err-texts-in-Some.field-0.0 c.from_residual-in_err-texts-in-Some.result
    c.from_residual-in_err-texts-in-Some.ensures.1 (inr c.in_err-texts-in-Some.ensures.err) (Keeps-refl _, c.requires.output_works)

pub returns-in_ok-book-in-None : goal.returns-in_ok-book-in-None
returns-in_ok-book-in-None g c =
    let whole = c.in_ok-scripts-in-None.ensures.whole in
    inr (c.in_ok-book-in-None.book, rw c.in-None.is c.in_ok-book-in-None.ensures.ok, (whole.0, c.in_ok-scripts-in-None.scripts.items, whole.1, whole.2, rw c.as_slice.ensures.value at c.view_book.ensures.views))

pub returns-in_ok-texts-in-Some : goal.returns-in_ok-texts-in-Some
returns-in_ok-texts-in-Some g c =
    let whole = c.in_ok-texts-in-Some.ensures.whole in
    inr (c.in_ok-loaded-in-Some.loaded, rw c.in-Some.is c.in_ok-loaded-in-Some.ensures, (whole.0, c.in_ok-texts-in-Some.texts.items, whole.1, whole.2, rw c.as_slice-in-Some.ensures.value at c.view_book-in-Some.ensures.views))
