use Rattle.std.proofs.Common.{◌≡◌, inl, inr, refl, Err}
use Rattle.std.proofs.KnownBytes.{Keeps-refl}
use Rattle.rd_devices.proofs.ResultLemmas.{passed_up}
use Rattle.rd_command_line.proofs.answering.follow_words.Goals as goal

pub returns-in_err-words-clause-answers : goal.returns-in_err-words-clause-answers
returns-in_err-words-clause-answers g c = rw c.in_err-words.was (
  passed_up (λ outcome. outcome ≡ Err c.in_err-words.field-0.0) c.in_err-words.field-0.0 c.from_residual.result c.from_residual.ensures.1 refl,
  ((Keeps-refl _, c.requires.input_works), (Keeps-refl _, c.requires.output_works)),
)

pub returns-in_err-asked-clause-answers : goal.returns-in_err-asked-clause-answers
returns-in_err-asked-clause-answers g c =
    let fault = c.in_err-asked.field-0.0 in
    rw c.in_ok-words.was (inr (
      fault,
      rw c.as_slice.ensures.value at c.in_err-asked.ensures.err,
      passed_up (λ outcome. outcome ≡ Err fault) fault c.from_residual-in_err-asked.result c.from_residual-in_err-asked.ensures.1 refl,
      ((Keeps-refl _, c.requires.input_works), (Keeps-refl _, c.requires.output_works)),
    ))

pub returns-clause-answers : goal.returns-clause-answers
returns-clause-answers g c =
    rw c.in_ok-words.was (inl (c.in_ok-asked.asked, c.follow_options.result, rw c.as_slice.ensures.value at c.in_ok-asked.ensures.ok, c.follow_options.ensures, refl))
