use Rattle.rd_journal.proofs.Prelude.{◌≡◌, ℕ, suc, ◌<◌, ◌≤◌, model, room, room_returned_by, room_after_undoing}
use Rattle.rd_journal.proofs.sessions.switching.make_room_for_makings.Given as goal

abbrev pub invariant-loop-number : goal.invariant-loop-number
invariant-loop-number g l = record {
  same : model l.world ≡ model l.fn.world;
  made : (n : ℕ) → n < l.number → room_returned_by l.given (suc n) ≤ room_after_undoing l.dropped (room l.world) (suc n);
  more : (m : ℕ) → room l.fn.world m ≤ room l.world m;
}
