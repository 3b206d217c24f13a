use Rattle.std.proofs.Common.{◌∙◌}
use Rattle.rd_options.proofs.GetterLemmas.{is_some_in_rows}
use Rattle.rd_options.proofs.command_line.is_given.Goals as goal

pub returns : goal.returns
returns c = c.is_some.ensures ∙ is_some_in_rows c.args.matches.now c.args.name.now c.get_str.result c.get_str.ensures
