use Rattle.std.proofs.Common.{slice_get, arith}
use Rattle.rd_marks.proofs.Reading.{event_there}
use Rattle.rd_marks.proofs.stretches.Stretches.event_at.Goals as goal

pub returns : goal.returns
returns c = grind (arith, event_there, slice_get)
