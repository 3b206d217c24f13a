use Rattle.rd_view.proofs.HistoryLemmas.{is_a_run}
use Rattle.rd_view.proofs.laws.a_history_is_a_run_of_its_script.Goals as goal

pub returns : goal.returns
returns c opened last kept es each leads = is_a_run opened last kept es each leads c.lines_of_commands_say_them.ensures
