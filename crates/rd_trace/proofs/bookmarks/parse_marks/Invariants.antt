use Rattle.std.proofs.Common.{◌≡◌, ◌≤◌, length, vec_len, vec_capacity}
use Rattle.rd_trace.proofs.MarkLemmas.{AreRead}
use Rattle.rd_trace.proofs.bookmarks.parse_marks.Given as goal

-- the bookmarks that the values before this one spell
abbrev pub invariant-loop-value : goal.invariant-loop-value
invariant-loop-value l = AreRead l.value-items l.value-index l.marks.items × (vec_len l.marks ≡ l.value-index) × (length l.value-items ≤ vec_capacity l.marks)
