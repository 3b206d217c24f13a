use Rattle.rd_marks.proofs.Prelude.{◌≡◌, take, length, vec_len, vec_capacity, events}
use Rattle.std.specs.Cow.{cow_slice_items}
use Rattle.rd_marks.proofs.stretches.Stretches.events.Given as goal

abbrev pub invariant-loop-i : goal.invariant-loop-i
invariant-loop-i l = record {
  items : l.list.items ≡ events (take l.i (cow_slice_items l.entries));
  len : vec_len l.list ≡ l.i;
  capacity : vec_capacity l.list ≡ length (cow_slice_items l.entries);
}
