use Rattle.std.proofs.Common.{string_bytes, arith}
use Rattle.rd_trace.proofs.StartLemmas.{on_ok}
use Rattle.rd_trace.proofs.TextLemmas.{both_appended}
use Rattle.rd_trace.proofs.events.put_next_event.Goals as goal

pub returns-clause-ok : goal.returns-clause-ok
returns-clause-ok c = grind (arith, string_bytes, both_appended)

pub returns-clause-kept : goal.returns-clause-kept
returns-clause-kept c = on_ok c.put_event.result (record { spelled = c.put_event.ensures.spelled; back = c.put_event.ensures.back })
