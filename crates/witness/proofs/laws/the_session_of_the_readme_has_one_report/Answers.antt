use Rattle.witness.proofs.OnlyReport.{has_one_report}
use Rattle.witness.proofs.laws.the_session_of_the_readme_has_one_report.Goals as goal

pub returns : goal.returns
returns c = has_one_report
