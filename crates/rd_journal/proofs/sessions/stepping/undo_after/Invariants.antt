use Rattle.rd_journal.proofs.Prelude.{ℕ, ◌+◌, ◌≤◌, length, take, drop, World, model, room, LeadsTo, room_returned_by}
use Rattle.rd_journal.proofs.sessions.stepping.undo_after.Given as goal

abbrev pub invariant-loop-last : goal.invariant-loop-last
invariant-loop-last g l = record {
  from : l.n ≤ l.last;
  within : l.last ≤ length l.steps;
  leads : (start : World) → LeadsTo start (model l.fn.world) l.steps → LeadsTo start (model l.world) (take l.last l.steps);
  room : (m : ℕ) → room l.fn.world m + room_returned_by (drop l.last l.steps) m ≤ room l.world m;
}
