use Rattle.std.proofs.Common.{◌≡◌, take}
use Rattle.rd_step.proofs.event_lists.common_beginning_len.Given as goal

abbrev pub invariant-loop-position : goal.invariant-loop-position
invariant-loop-position g l = take l.position (g.A.EventList.listed l.a) ≡ take l.position (g.B.EventList.listed l.b)
