use Rattle.std.proofs.KnownBytes.{Keeps-refl}
use Rattle.std.proofs.lemmas.List.{length-map}
use Rattle.rd_command_line.proofs.answering.follow_options.Goals as goal

pub returns-then-live : goal.returns-then-live
returns-then-live g c =
    let done = rw c.as_slice-names.ensures.value at c.view_files_live.ensures in
    rw c.in-View.is ((Keeps-refl _, c.requires.input_works), rw c.if-live.true (c.view_files_live.result, c.lived.ensures, done))

pub returns-in-View : goal.returns-in-View
returns-in-View g c =
    let done = rw c.as_slice-names.ensures.value at c.view_files.ensures in
    rw c.in-View.is (
      (Keeps-refl _, c.requires.input_works),
      rw c.if-live.false (c.view_files.result, c.recorded.ensures, rw (length-map c.in-View.files.items (λ file. file.now)) done),
    )
