use Rattle.rd_trace.proofs.Prelude.{◌≡◌, take, items_view, items_by, slot_data, filled_slots}
use Rattle.rd_trace.proofs.arrays.slots_json.Given as goal

-- the values of the slots before this one
abbrev pub invariant-loop-position : goal.invariant-loop-position
invariant-loop-position l = items_view l.values.items ≡ items_by slot_data (filled_slots 0 (take l.position l.slots))
