use Rattle.std.proofs.Common.{◌+◌, sym, ◌∙◌, arith}
use Rattle.rd_trace.proofs.ArrayLemmas.{one_more_slot, rises_here, no_slot_here}
use Rattle.rd_trace.proofs.arrays.parse_slots.Goals as goal
use Rattle.rd_trace.proofs.arrays.parse_slots.Goals.{then-position-free-via-then-position-free, then-position-free-via-else-position-free+then-position-ge-SLOTS}

pub returns-in_err-position-clause-none : goal.returns-in_err-position-clause-none
returns-in_err-position-clause-none c = grind (arith, no_slot_here)

pub returns-then-position-free-clause-none : goal.returns-then-position-free-clause-none
returns-then-position-free-clause-none c = grind (arith, rises_here, then-position-free-via-then-position-free, then-position-free-via-else-position-free+then-position-ge-SLOTS)

pub loop-value-preserved : goal.loop-value-preserved
loop-value-preserved c =
    one_more_slot c.deref-value-items.result.now c.loop-value.value-index c.loop-value.slots c.loop-value.free c.loop-value.invariant c.value-item.result (omega arith) c.value-item.is
    (c.in_ok-position.position, c.in_ok-position.slot) (c.in_ok-position.position + 1) (sym c.in_ok-position.was ∙ c.parse_slot.ensures) (omega arith) (omega arith) (omega arith)
