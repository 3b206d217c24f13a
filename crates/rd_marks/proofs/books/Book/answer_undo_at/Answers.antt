use Rattle.rd_marks.proofs.Prelude.{refl, ap, arith, length-map, Ok, Err, Entry, journal, marks_of, named_entries_in, Reply, state}
use Rattle.rd_marks.proofs.Here.{track_cut, undone_alone_leaves, was_live}
use Rattle.rd_marks.proofs.AnswerLemmas.{move_answered, passed_up}
use Rattle.rd_marks.proofs.ObeyLemmas.{undo_at_start}
use Rattle.rd_marks.proofs.books.Book.answer_undo_at.Goals as goal

pub invariant_of-self : goal.invariant_of-self
invariant_of-self g c = rw c.in_err-undo_at.ensures.state.1 (record { runs = c.args.self.now.runs; stands = c.args.self.now.stands })

pub invariant_of-self-2 : goal.invariant_of-self-2
invariant_of-self-2 g c =
    let book = c.args.self.now in
    let old = journal book.session in
    record {
      runs = rw (undo_at_start (state book.session) c.args.k _ c.in_ok-undo_at.ensures.state, c.record_change_after.ensures.lists) book.runs;
      stands =
          track_cut _ _ c.record_change_after.ensures.begins c.saturating_sub.result old (journal c.undo_at.new.self) _ _ book.stands c.record_change_after.ensures.short
          (omega (arith, was_live (state book.session) c.args.k _ _ c.in_ok-undo_at.ensures.state, length-map old.live (λ (x : Entry). x.event), c.saturating_sub.ensures))
          (undone_alone_leaves c.args.k _ old (journal c.undo_at.new.self) c.saturating_sub.ensures c.in_ok-undo_at.ensures.entries);
    }

pub returns-in_err-undo_at : goal.returns-in_err-undo_at
returns-in_err-undo_at g c =
    move_answered c.args.self.now.session c.undo_at.new.self (marks_of (named_entries_in c.args.self.now.bookmarks)) _ c.from_residual.result (Err c.in_err-undo_at.field-0.0) _
    c.in_err-undo_at.ensures.state refl tt (passed_up c.in_err-undo_at.field-0.0 c.from_residual.result c.from_residual.ensures.1)

pub returns : goal.returns
returns g c =
    move_answered c.args.self.now.session c.undo_at.new.self (marks_of (named_entries_in c.args.self.now.bookmarks)) _ (Ok c.step_counts.result) (Ok tt) _ c.in_ok-undo_at.ensures.state
    (ap marks_of c.record_change_after.ensures.lists) (ap (λ (r : Reply). Ok r) c.step_counts.ensures) tt
