use Rattle.std.proofs.Common.{decimal, string_bytes, arith}
use Rattle.rd_trace.proofs.TextLemmas.{last_appended, appended_twice}
use Rattle.rd_trace.proofs.events.put_actor_between.Goals as goal

pub returns : goal.returns
returns c = grind (arith, string_bytes, last_appended, appended_twice, decimal)
