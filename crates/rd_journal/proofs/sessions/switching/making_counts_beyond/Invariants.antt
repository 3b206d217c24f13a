use Rattle.rd_journal.proofs.Prelude.{◌≡◌, ◌-◌, ◌<◌, ℕ, length, take, get_or, room_returned_by}
use Rattle.rd_journal.proofs.sessions.switching.making_counts_beyond.Given as goal

abbrev pub invariant-loop-position : goal.invariant-loop-position
invariant-loop-position l = record {
  long : length l.counts ≡ 256;
  counted : (m : ℕ) → m < 256 → get_or l.counts m 0 ≡ get_or l.fn.given m 0 - room_returned_by (take l.position l.dropped) m;
}
