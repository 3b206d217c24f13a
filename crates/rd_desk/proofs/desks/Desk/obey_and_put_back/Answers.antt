use Rattle.rd_desk.proofs.Prelude.{subst, ◌∙◌, IsLegal, book_state, entries, number, opened_state, seen}
use Rattle.rd_desk.proofs.HistoryLemmas.{is_last_answer, is_legal, not_busy}
use Rattle.rd_desk.proofs.PassLemmas.{recorded_by}
use Rattle.rd_desk.proofs.desks.Desk.obey_and_put_back.Goals as goal

pub put_back-requires-clause-value : goal.put_back-requires-clause-value
put_back-requires-clause-value g c =
    let by = recorded_by (opened_state c.args.self.now) _ (seen c.args.pass.now) _ _ _ c.args.pass.now c.obey_and_record-answer.result (rw c.number.ensures at c.obey_and_record-answer.ensures.recorded) in
    record { rooted = c.obey_and_record-answer.ensures.opened ∙ c.requires.taken.rooted; held = (c.requires.taken.held.0, _, c.requires.taken.held.2, by.0) }

pub returns-clause-outcome : goal.returns-clause-outcome
returns-clause-outcome g c = let found = entries c.args.kept.history in let new = entries c.obey_and_record-answer.new.self.history in let pass = c.args.pass.now in
    let by = recorded_by (opened_state c.args.self.now) (number pass) (seen pass) found new c.args.command c.put_back.new.pass c.obey_and_record-answer.result (rw c.number.ensures at c.obey_and_record-answer.ensures.recorded) in rw c.with_number.ensures.answer (record {
      same_number = c.put_back.ensures.ok.same_number;
      has_seen = rw c.put_back.ensures.ok.has_seen (by.3 c.requires.taken.continues (subst (λ b. IsLegal (book_state b) new) (c.obey_and_record-answer.ensures.opened ∙ c.requires.taken.rooted) (is_legal _ c.obey_and_record-answer.new.self.book.value _ c.obey_and_record-answer.new.self.legal)));
      grown = c.put_back.ensures.ok.words;
      words = by.2;
    })

pub returns-clause-number : goal.returns-clause-number
returns-clause-number g c =
    is_last_answer (number c.args.pass.now) _ (entries c.args.kept.history) (entries c.obey_and_record-answer.new.self.history) _ c.args.command c.with_number.result (rw (c.with_number.ensures.answer, ← c.number.ensures) c.obey_and_record-answer.ensures.recorded) c.put_back.ensures.ok.has_seen c.len-calls.ensures c.with_number.ensures.number

pub returns-clause-never_busy : goal.returns-clause-never_busy
returns-clause-never_busy g c = not_busy c.with_number.result (rw c.with_number.ensures.answer (recorded_by (opened_state c.args.self.now) _ (seen c.args.pass.now) _ _ _ c.args.pass.now c.obey_and_record-answer.result (rw c.number.ensures at c.obey_and_record-answer.ensures.recorded)).1)
