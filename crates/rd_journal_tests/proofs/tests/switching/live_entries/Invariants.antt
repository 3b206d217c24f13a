use Rattle.std.proofs.Common.{◌≡◌, take}
use Rattle.rd_journal.specs.Sessions.{journal}
use Rattle.rd_journal_tests.proofs.tests.switching.live_entries.Given as goal

-- the entries so far are the first of the session's
abbrev pub invariant-loop-position : goal.invariant-loop-position
invariant-loop-position g l = l.entries.items ≡ take l.position (journal l.session).live
