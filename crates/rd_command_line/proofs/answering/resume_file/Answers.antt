use Rattle.std.proofs.Common.{inl, inr, refl}
use Rattle.std.proofs.KnownBytes.{Keeps-refl}
use Rattle.rd_devices.specs.Streams.{devices}
use Rattle.rd_devices.proofs.ResultLemmas.{passed_up}
use Rattle.rd_command_line.specs.Answering.{ResumesFile}
use Rattle.rd_command_line.proofs.answering.resume_file.Goals as goal

pub returns-in_err-book : goal.returns-in_err-book
returns-in_err-book g c =
    let d = devices g.I.Source g.O.Sink c.args.input.now c.args.input.now c.args.output.now c.args.output.now in
    let fault = c.in_err-book.field-0.0 in
    passed_up (λ r. ResumesFile g.R.File.Read.remaining c.args.trace d r) fault c.from_residual.result c.from_residual.ensures.1
    (inl (fault, refl, c.in_err-book.ensures, ((Keeps-refl _, c.requires.input_works), (Keeps-refl _, c.requires.output_works))))

pub returns : goal.returns
returns g c = inr (c.in_ok-book.book, c.in_ok-book.ensures, c.play.new.book, c.play.ensures.plays)
