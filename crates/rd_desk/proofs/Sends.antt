-- A desk may be shared between threads, since what it guards may be sent. For types of plain data,
-- Rattle itself shows this, in the module `TheSendSync` beside the type's.
use Rattle.rd_desk.proofs.Prelude.{RattleType, IsSend, IsSync, part_keyless, sendable, recorded_send, recorded_sync, struct_send, struct_sync, shape, crosses, frees}
use denote.Struct.Struct.{Struct}
use denote.Struct.Owning.{shape as owning_shape}
use Rattle.atomic_table.specs.declared.shared.TableRule.{Ghosts}
use Rattle.atomic_table.specs.contracts.shared.Shared as Shared
use Rattle.atomic_table.specs.contracts.shared.Seat as Seat
use Rattle.atomic_table.specs.contracts.owned.Table as Table
use Rattle.atomic_table.specs.contracts.send_lease.SendLease as SendLease
use Rattle.atomic_table.proofs.Sent.{seat_keyless, shares_keyless}
use Rattle.atomic_table.proofs.Rights.{right_send}
use Rattle.std.specs.contracts.alloc.Global as Heap
use Rattle.std.specs.contracts.impls.GlobalAllocator.TheImpl.{ghosts as heap_ghosts}
use Rattle.rd_marks.specs.contracts.books.Book as Book
use Rattle.rd_lock.specs.contracts.locks.TicketLock as TicketLock
use Rattle.rd_desk.specs.contracts.desks.Desk as Desk
use Rattle.rd_desk.specs.contracts.histories.Call as Call
use Rattle.rd_desk.specs.contracts.recording.BookWithHistory as BookWithHistory
use Rattle.rd_marks.proofs.Sends.{book_send}
use Rattle.rd_desk.proofs.histories.History.TheSendSync as history
use Rattle.rd_desk.specs.contracts.recording.BookWithHistoryRecorded.TheImpl as Recorded

-- a seat may be sent if what the slots hold may be
pub seat_send : (S V : RattleType) → IsSend S → IsSend (Seat.the_row S V)
seat_send S V s = record { owned = λ d vs. ((λ vss. (tt, ((λ uss. (tt, tt)), tt))), seat_keyless S s V.coded.code d.table_id d.id d.me); leaving = λ k f vs. tt }

-- a reference to a table's shared part may be sent if what the slots hold may be
pub shared_sync : (S V K P : RattleType) (g : Ghosts P.Denot S.Denot V.Denot K.Denot) → IsSend S → IsSync (Shared.the_row S V K P g)
shared_sync S V K P g s =
    let fields : IsSync (Struct (owning_shape (Shared.the_type S V K P g))) = search sendable depth 20 in
    record { shared = λ d b o ν. (fields.shared (d.words, (d.slots, (tt, tt))) b o ν, shares_keyless S s V.coded.code d.table_id (g.holds d.key) d.words d.slots ν) }

-- a book with its history may be sent
pub book_with_history_send : (R : RattleType) → IsSend (BookWithHistory.the_row R)
book_with_history_send R = recorded_send _ _ _ (BookWithHistory.the_type R).to_one
    (struct_send (shape (BookWithHistory.the_type R)) (search (book_send, sendable, crosses) depth 60 fits 100000, (history.the_field_send, (search (book_send, sendable, crosses) depth 60 fits 100000, tt))))

-- a reference to a lease may be sent
pub lease_sync : (T : RattleType) → IsSync (SendLease.the_row T Heap.the_row heap_ghosts)
lease_sync T = record { shared = λ d b o ν q. part_keyless (SendLease.the_row T Heap.the_row heap_ghosts) (right_send T Heap.the_row heap_ghosts (record { frees = frees.frees })) q d b o }

-- a reference to a table may be sent if what its slots hold may be
pub table_sync : (S V K P : RattleType) (g : Ghosts P.Denot S.Denot V.Denot K.Denot) → IsSend S → IsSync (Table.the_field S V K P Heap.the_row g heap_ghosts).row
table_sync S V K P g s = struct_sync (shape (Table.the_type S V K P Heap.the_row g heap_ghosts)) (shared_sync S V K P g s, (search sendable depth 20, (search sendable depth 20, (lease_sync _, (lease_sync _, (search (sendable, crosses) depth 20, tt))))))

-- viewers in several threads may share a desk
pub desk_sync : (R : RattleType) → IsSync (Desk.the_row R)
desk_sync R = recorded_sync _ _ _ (Desk.the_type R).to_one
    (struct_sync (shape (Desk.the_type R)) (
      struct_sync (shape (TicketLock.the_type (BookWithHistory.the_row R) Call.the_row (Book.the_row R) (Recorded.ghosts R)))
          (search (table_sync, book_with_history_send, sendable, crosses) depth 60 fits 100000, tt),
      tt,
    ))
