use denote.Param.Send.{sendable}
use Rattle.std.proofs.Crossing.{crosses}
use Rattle.rd_desk.proofs.Sends.{seat_send, book_with_history_send, desk_sync}
use Rattle.rd_view_tests.proofs.tests.threads.runs.Goals as goal

pub run_viewers-requires-send-G-Pass : goal.run_viewers-requires-send-G-Pass
run_viewers-requires-send-G-Pass g c κs met = search (seat_send, book_with_history_send, sendable, crosses) depth 60 fits 100000

pub run_viewers-requires-sync-G : goal.run_viewers-requires-sync-G
run_viewers-requires-sync-G g c κs met = search (desk_sync, sendable, crosses) depth 60 fits 100000
