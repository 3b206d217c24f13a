use Rattle.std.proofs.Common.{◌∙◌, ap, Some}
use Rattle.std.proofs.lemmas.Option.{IfSome_then}
use Rattle.rd_options.specs.Options.{flag_text}
use Rattle.rd_options.proofs.GetterLemmas.{first_value_in_rows, no_value, same_value}
use Rattle.rd_options.proofs.command_line.flag.Goals as goal

pub returns-in_err-get_str-clause-none : goal.returns-in_err-get_str-clause-none
returns-in_err-get_str-clause-none c = λ _ choice tells. no_value c.args.matches.now c.args.name.now (flag_text choice) c.in_err-get_str.ensures tells

pub returns-clause-some : goal.returns-clause-some
returns-clause-some c = IfSome_then c.parse_flag.result c.parse_flag.ensures.some (λ choice is. first_value_in_rows c.args.matches.now _ _ c.in_ok-get_str.ensures ∙ ap Some is)

pub returns-clause-none : goal.returns-clause-none
returns-clause-none c =
    λ is choice tells. c.parse_flag.ensures.none is choice (same_value c.args.matches.now c.args.name.now c.in_ok-get_str.field-0.now (flag_text choice) c.in_ok-get_str.ensures tells)
