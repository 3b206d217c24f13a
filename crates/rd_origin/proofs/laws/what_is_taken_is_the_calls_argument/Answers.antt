use Rattle.rd_origin.proofs.Handed.{handed_over}
use Rattle.rd_origin.proofs.laws.what_is_taken_is_the_calls_argument.Goals as goal

pub returns : goal.returns
returns c = handed_over
