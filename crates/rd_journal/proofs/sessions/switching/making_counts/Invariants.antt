use Rattle.rd_journal.proofs.Prelude.{◌≡◌, ◌<◌, ℕ, length, take, get_or, room_returned_by}
use Rattle.rd_journal.proofs.sessions.switching.making_counts.Given as goal

abbrev pub invariant-loop-entry : goal.invariant-loop-entry
invariant-loop-entry l = record {
  long : length l.counts ≡ 256;
  counted : (m : ℕ) → m < 256 → get_or l.counts m 0 ≡ room_returned_by (take l.entry-index l.entries) m;
}
