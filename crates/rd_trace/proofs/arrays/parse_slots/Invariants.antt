use Rattle.rd_trace.proofs.ArrayLemmas.{AreReadTo}
use Rattle.rd_trace.proofs.arrays.parse_slots.Given as goal

-- the slots that the values before this one spell
abbrev pub invariant-loop-value : goal.invariant-loop-value
invariant-loop-value l = AreReadTo l.value-items l.value-index l.slots l.free
