use Rattle.rd_trace.proofs.Prelude.{arith}
use Rattle.rd_trace.proofs.EventLemmas.{spells_no_event}
use Rattle.rd_trace.proofs.events.EventPlain.parse_value.Goals as goal

pub returns-in_default-clause-none : goal.returns-in_default-clause-none
returns-in_default-clause-none c = grind (arith, spells_no_event)

pub returns-in_default-2-clause-none : goal.returns-in_default-2-clause-none
returns-in_default-2-clause-none c = grind (arith, spells_no_event)
