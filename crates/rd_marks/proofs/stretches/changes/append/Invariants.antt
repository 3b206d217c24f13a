use Rattle.std.proofs.Common.{◌≡◌, ◌++◌, ◌+◌, ◌≤◌, take, length, vec_len, vec_capacity}
use Rattle.rd_marks.proofs.stretches.changes.append.Given as goal

abbrev pub invariant-loop-index : goal.invariant-loop-index
invariant-loop-index l = record {
  items : l.entries.items ≡ l.fn.entries.items ++ take l.index l.more;
  len : vec_len l.entries ≡ length l.fn.entries.items + l.index;
  capacity : length l.fn.entries.items + length l.more ≤ vec_capacity l.entries;
}
