use Rattle.std.proofs.Common.{◌∙◌, ap, sym}
use Rattle.std.specs.Borrow.{Bor}
use Rattle.clap.specs.Walk.{Text}
use Rattle.rd_options.proofs.GetterLemmas.{value_or}
use Rattle.rd_options.proofs.command_line.text_or_4.Goals as goal

pub returns : goal.returns
returns c = ap (λ (text : Bor Text). text.now) c.unwrap_or.ensures ∙ sym (value_or c.args.matches.now c.args.name.now c.get_str.result _ c.get_str.ensures)
