use Rattle.rd_trace.proofs.OneTrace.{one_trace}
use Rattle.rd_trace.proofs.laws.a_text_is_one_trace_at_most.Goals as goal

pub returns : goal.returns
returns c = one_trace
