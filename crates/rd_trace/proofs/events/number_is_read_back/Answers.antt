use Rattle.std.proofs.Common.{arith}
use Rattle.rd_trace.proofs.TextLemmas.{number_back}
use Rattle.rd_trace.proofs.events.number_is_read_back.Goals as goal

pub returns : goal.returns
returns c = number_back c.args.x (omega (arith, c.ranges.x.fits))
