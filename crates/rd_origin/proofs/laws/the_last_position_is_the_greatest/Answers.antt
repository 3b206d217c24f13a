use Rattle.rd_origin.proofs.Split.{is_greatest, none_passes}
use Rattle.rd_origin.proofs.laws.the_last_position_is_the_greatest.Goals as goal

pub returns-clause-some : goal.returns-clause-some
returns-clause-some c = is_greatest

pub returns-clause-none : goal.returns-clause-none
returns-clause-none c = none_passes
