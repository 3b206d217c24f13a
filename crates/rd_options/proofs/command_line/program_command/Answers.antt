use Rattle.std.proofs.Common.{rules, ◌≡◌, codes, true}
use Rattle.std.proofs.lemmas.Result.{IfOk-weaker}
use Rattle.clap.specs.Simple.{app_of, new_app, on_top}
use Rattle.rd_options.proofs.OptionLemmas.{with_subcommand-equal}
use Rattle.rd_options.proofs.command_line.program_command.Goals as goal

pub returns : goal.returns
returns c =
    let run = c.in_ok-run_command.ensures.app in
    let view = c.in_ok-view_command.ensures.app in
    let base : app_of c.subcommand_required.result ≡ on_top (λ s. record s { has_version = true; subcommand_required = true }) (new_app (codes "lcrqdb")) = search rules in
    let with_run = with_subcommand-equal _ _ (app_of c.in_ok-run_command.field-0) _ _ (c.in_ok-subcommand.ensures.shape c.in_ok-run_command.ensures.local) base run.2 in
    let with_view = with_subcommand-equal _ _ (app_of c.in_ok-view_command.field-0) _ _ (c.in_ok-subcommand-2.ensures.shape c.in_ok-view_command.ensures.local) with_run view.2 in
    IfOk-weaker c.subcommand-3.result _ _ (λ whole adds. (
      (run.0, view.0),
      (run.1, view.1),
      with_subcommand-equal _ _ (app_of c.in_ok-load_command.field-0) _ _ (adds.shape c.in_ok-load_command.ensures.local) with_view c.in_ok-load_command.ensures.app,
    )) c.subcommand-3.ensures
