use Rattle.rd_journal.proofs.Prelude.{common_steps, arith}
use Rattle.rd_journal.proofs.Calls.{back_start}
use Rattle.rd_journal.proofs.sessions.Session.go_along_track.Goals as goal

pub returns-else-n-len-clause-state : goal.returns-else-n-len-clause-state
returns-else-n-len-clause-state g c = let start = back_start _ _ _ c.undo_last.ensures.state in grind (arith, common_steps)
