use Rattle.std.proofs.Common.{Err, ap, inl, inr}
use Rattle.std.proofs.KnownBytes.{Keeps-refl}
use Rattle.rd_marks.specs.AnyBook.{fresh_state}
use Rattle.rd_marks.specs.Ring.{ring_length}
use Rattle.rd_devices.specs.Streams.{devices}
use Rattle.rd_devices.proofs.ResultLemmas.{passed_up}
use Rattle.rd_command_line.specs.Answering.{RunsFile}
use Rattle.rd_command_line.proofs.answering.run_file.Goals as goal

pub returns-in_err-file : goal.returns-in_err-file
returns-in_err-file g c =
    let d = devices g.I.Source g.O.Sink c.args.input.now c.args.input.now c.args.output.now c.args.output.now in
    let fault = c.in_err-file.field-0.0 in
    passed_up (λ r. RunsFile g.R.File.Read.remaining c.args.name.now (fresh_state (ring_length c.args.setup.ring) c.args.setup.actors) c.args.trace d r) fault c.from_residual.result c.from_residual.ensures.1
    (inl (c.in_err-file.ensures.0, ap Err c.in_err-file.ensures.1, ((Keeps-refl _, c.requires.input_works), (Keeps-refl _, c.requires.output_works))))

pub returns-in_err-book : goal.returns-in_err-book
returns-in_err-book g c =
    let d = devices g.I.Source g.O.Sink c.args.input.now c.args.input.now c.args.output.now c.args.output.now in
    let fault = c.in_err-book.field-0.0 in
    passed_up (λ r. RunsFile g.R.File.Read.remaining c.args.name.now (fresh_state (ring_length c.args.setup.ring) c.args.setup.actors) c.args.trace d r) fault c.from_residual-in_err-book.result c.from_residual-in_err-book.ensures.1
    (inr (c.in_ok-file.file, c.in_ok-file.ensures, inl (ap Err c.in_err-book.ensures.err, ((Keeps-refl _, c.requires.input_works), (Keeps-refl _, c.requires.output_works)))))

pub returns-in-None : goal.returns-in-None
returns-in-None g c = inr (c.in_ok-file.file, c.in_ok-file.ensures, inr (c.play.new.book, rw c.in-None.is (rw c.in_ok-book.ensures.ok at c.play.ensures.plays)))

pub returns : goal.returns
returns g c =
    let played = rw c.in_ok-book.ensures.ok at c.play-in-Some.ensures.plays in
    inr (c.in_ok-file.file, c.in_ok-file.ensures, inr (c.play-in-Some.new.book, rw c.in-Some.is ((Keeps-refl _, c.requires.input_works), (_, c.new.ensures.bytes, played))))
