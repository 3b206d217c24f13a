use Rattle.std.proofs.Common.{arith}
use Rattle.rd_trace.proofs.ArrayLemmas.{one_more_value, no_more_value}
use Rattle.rd_trace.proofs.arrays.slots_json.Goals as goal
use Rattle.rd_trace.proofs.arrays.slots_json.Goals.{in-Empty, in_default+in_ok-slot_json-in_default+in_ok-push-in_default}

pub loop-position-preserved : goal.loop-position-preserved
loop-position-preserved c = grind (arith, in-Empty, no_more_value, in_default+in_ok-slot_json-in_default+in_ok-push-in_default, one_more_value)
