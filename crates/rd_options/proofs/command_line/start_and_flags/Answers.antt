use Rattle.std.proofs.Common.{codes}
use Rattle.rd_options.proofs.GetterLemmas.{first_value_in_rows}
use Rattle.rd_options.proofs.command_line.start_and_flags.Goals as goal

pub returns-clause-some : goal.returns-clause-some
returns-clause-some c =
    let start = first_value_in_rows c.args.view.now (codes "start") _ c.get_str-start.ensures in
    ((start, rw start at (c.has_conflict.ensures.none c.if-has_conflict.false).1), c.in_ok-live.ensures.some, c.in_ok-history.ensures.some, c.in_ok-trace.ensures.some)
