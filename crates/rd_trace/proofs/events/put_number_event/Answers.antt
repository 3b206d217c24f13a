use Rattle.std.proofs.Common.{decimal, string_bytes, append_assoc, arith}
use Rattle.rd_trace.proofs.TextLemmas.{last_appended, appended_twice}
use Rattle.rd_trace.proofs.events.put_number_event.Goals as goal

pub returns : goal.returns
returns c = grind (arith, string_bytes, decimal, last_appended, appended_twice, append_assoc)
