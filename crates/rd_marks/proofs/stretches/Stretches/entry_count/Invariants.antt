use Rattle.rd_marks.proofs.Prelude.{◌≡◌, ◌+◌, drop, entry_count}
use Rattle.rd_marks.proofs.stretches.Stretches.entry_count.Given as goal

abbrev pub invariant-loop-i : goal.invariant-loop-i
invariant-loop-i l = record { counted : l.count + entry_count (drop l.i l.self.list.items) ≡ entry_count l.self.list.items }
