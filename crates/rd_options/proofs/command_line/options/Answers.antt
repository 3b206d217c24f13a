use Rattle.std.proofs.Common.{refl, ap, inr}
use Rattle.clap.proofs.TakesLemmas.{passed_up}
use Rattle.rd_options.specs.Options.{options_fault}
use Rattle.rd_options.specs.CommandLine.{GivesFault, is_help_or_version}
use Rattle.rd_options.proofs.OptionLemmas.{GivesFault-error, GivesOptions-matches, IsFaultlessWithoutOptions-matches}
use Rattle.rd_options.proofs.command_line.options.Goals as goal

pub returns-in_err-matches-clause-err : goal.returns-in_err-matches-clause-err
returns-in_err-matches-clause-err g c =
    let app = c.in_ok-command.ensures in
    let error = c.in_err-matches.field-0.0 in
    passed_up c.from_residual-in_err-matches.result (options_fault error) (GivesFault _) c.from_residual-in_err-matches.ensures.1
    (GivesFault-error _ _ app.0 error app.1 app.2 c.in_err-matches.ensures.kinds)

pub returns-in_default-clause-err : goal.returns-in_default-clause-err
returns-in_default-clause-err g c =
    let app = c.in_ok-command.ensures in
    let nothing = (rw c.in_default.is at c.in_ok-options.ensures.none) refl in (
      ap is_help_or_version c.in_ok-error.ensures.kind,
      inr (IsFaultlessWithoutOptions-matches _ _ app.0 c.in_ok-matches.matches app.1 app.2 c.in_ok-matches.ensures.kinds c.in_ok-matches.ensures.ok.2 nothing),
    )

pub returns-then-has_too_many_files-clause-err : goal.returns-then-has_too_many_files-clause-err
returns-then-has_too_many_files-clause-err g c =
    let app = c.in_ok-command.ensures in
    let tells = rw c.in-Some.is at c.in_ok-options.ensures.some in (
      c.in-Some.options,
      GivesOptions-matches _ _ app.0 c.in_ok-matches.matches _ app.1 app.2 c.in_ok-matches.ensures.kinds c.in_ok-matches.ensures.ok.2 tells,
      c.has_too_many_files.ensures.many c.if-has_too_many_files.true,
    )

pub returns-clause-ok : goal.returns-clause-ok
returns-clause-ok g c =
    let app = c.in_ok-command.ensures in
    let tells = rw c.in-Some.is at c.in_ok-options.ensures.some in
    GivesOptions-matches _ _ app.0 c.in_ok-matches.matches _ app.1 app.2 c.in_ok-matches.ensures.kinds c.in_ok-matches.ensures.ok.2 tells

pub returns-then-shares_a_file-clause-err : goal.returns-then-shares_a_file-clause-err
returns-then-shares_a_file-clause-err g c =
    let app = c.in_ok-command.ensures in
    let tells = rw c.in-Some.is at c.in_ok-options.ensures.some in (
      c.in-Some.options,
      GivesOptions-matches _ _ app.0 c.in_ok-matches.matches _ app.1 app.2 c.in_ok-matches.ensures.kinds c.in_ok-matches.ensures.ok.2 tells,
      c.shares_a_file.ensures.yes c.if-shares_a_file.true,
    )
