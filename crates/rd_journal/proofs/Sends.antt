-- A session may cross threads. Rattle shows this for each type of plain data, in the module
-- `TheSendSync` beside the type's. But a session also has the snapshot of its opened world, which
-- is no data.
use Rattle.rd_journal.proofs.Prelude.{RattleType, IsSend, sendable, struct_send, shape, crosses}
use Rattle.rd_journal.specs.contracts.sessions.Session as Session
use Rattle.rd_step.proofs.worlds.World.TheSendSync as world
use Rattle.rd_depend.proofs.index.DependIndex.TheSendSync as index
use Rattle.rd_journal.proofs.entries.Entries.TheSendSync as entries

-- a session may cross threads as the field of another type
pub session_field_send : (R : RattleType) → IsSend (Session.the_field R).row
session_field_send R =
    struct_send (shape (Session.the_type R)) (world.the_field_send R, (entries.the_field_send, (index.the_field_send, (search (sendable, crosses) depth 60 fits 100000, (search (sendable, crosses) depth 60 fits 100000, tt)))))
