use Rattle.rd_marks.proofs.Prelude.{[], ◌∷◌, length, length-append, refl, ap, arith, ahead_entries, Journal, journal, events, marks_of, named_entries_in, state}
use Rattle.rd_marks.proofs.Here.{track_cut, added_leaves}
use Rattle.rd_marks.proofs.AnswerLemmas.{event_made, event_refused}
use Rattle.rd_marks.proofs.ObeyLemmas.{apply_start}
use Rattle.rd_marks.proofs.books.Book.apply.Goals as goal

pub invariant_of-self : goal.invariant_of-self
invariant_of-self g c =
    let same = c.in_err-step.ensures.unchanged in
    record { runs = rw (ap (λ (j : Journal). j.start) same.journal) c.args.self.now.runs; stands = rw same.track c.args.self.now.stands }

pub invariant_of-self-2 : goal.invariant_of-self-2
invariant_of-self-2 g c =
    let old = journal c.args.self.now.session in
    record {
      runs = rw (apply_start (state c.args.self.now.session) c.args.event _ c.in_ok-step.ensures.ok, c.record_change_after.ensures.lists) c.args.self.now.runs;
      stands =
          track_cut _ _ c.record_change_after.ensures.begins (length old.live) old (journal c.apply.new.self) (events (ahead_entries c.args.self.now.session.entries)) _ c.args.self.now.stands
          (omega (arith, c.record_change_after.ensures.short, c.in_ok-step.ensures.step.number, ap length c.in_ok-step.ensures.step.entries.live, length-append old.live (c.in_ok-step.entry ∷ []))) (omega arith)
          (added_leaves _ c.in_ok-step.entry old (journal c.apply.new.self) refl c.in_ok-step.ensures.step.entries);
    }

pub returns-in_err-step-clause-answer : goal.returns-in_err-step-clause-answer
returns-in_err-step-clause-answer g c =
    event_refused (journal c.args.self.now.session) (journal c.apply.new.self) (marks_of (named_entries_in c.args.self.now.bookmarks)) c.args.event
    c.from_residual.result _ c.in_err-step.ensures.unchanged.journal c.from_residual.ensures.1 c.in_err-step.ensures.err

pub returns-clause-answer : goal.returns-clause-answer
returns-clause-answer g c =
    event_made (journal c.args.self.now.session) (journal c.apply.new.self) (marks_of (named_entries_in c.args.self.now.bookmarks)) c.args.event
    _ c.in_ok-step.step c.in_ok-step.entry.reply c.in_ok-step.ensures.ok c.in_ok-step.ensures.step.number c.in_ok-step.ensures.reply (ap marks_of c.record_change_after.ensures.lists)

pub returns-clause-start : goal.returns-clause-start
returns-clause-start g c = apply_start (state c.args.self.now.session) c.args.event _ c.in_ok-step.ensures.ok
