-- A book may be sent to another thread, since its session may be.
use Rattle.rd_marks.proofs.Prelude.{RattleType, IsSend, sendable, recorded_send, struct_send, shape, crosses}
use Rattle.rd_journal.proofs.Sends.{session_field_send}
use Rattle.rd_marks.specs.contracts.books.Book as Book
use Rattle.rd_marks.proofs.bookmarks.Bookmarks.TheSendSync as bookmarks

pub book_send : (R : RattleType) → IsSend (Book.the_row R)
book_send R = recorded_send _ _ _ (Book.the_type R).to_one
    (struct_send (shape (Book.the_type R)) (session_field_send R, (bookmarks.the_field_send, (search (sendable, crosses) depth 60 fits 100000, tt))))
