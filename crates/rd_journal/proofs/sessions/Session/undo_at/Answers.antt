use Rattle.rd_journal.proofs.Prelude.{◌∙◌, sym, inl, inr, refl, arith, journal}
use Rattle.rd_journal.proofs.Ahead.{is_session}
use Rattle.rd_journal.proofs.LoneUndo.{undo_at_missing, undo_at_goes, undo_at_refused, undone_run}
use Rattle.rd_journal.proofs.sessions.Session.undo_at.Goals as goal
use Rattle.rd_journal.proofs.sessions.Session.undo_at.Goals.{then-len-k-via-then-len-k, then-len-k-via-else-len-k+then-k-eq0}

pub returns-then-len-k : goal.returns-then-len-k
returns-then-len-k g c =
    let missing = undo_at_missing (journal c.args.self.now) c.len-len.result c.args.k c.len-len.ensures.entries
    (elim c.then-len-k.branch [ then-len-k-via-then-len-k w ↦ inr (omega arith) | then-len-k-via-else-len-k+then-k-eq0 w ↦ inl (omega arith) ]) in
    record { state = (missing.0, refl); entries = tt; run = tt; answer = missing.1; capacity = refl }

pub returns-in-Some : goal.returns-in-Some
returns-in-Some g c =
    let refused = undo_at_refused c.args.k c.in-Some.dependant (journal c.args.self.now) (is_session c.args.self.now).runs (omega arith)
    (omega (arith, c.len-len.ensures.entries)) (sym c.in-Some.ensures) in
    record { state = (refused.0, refl); entries = tt; run = tt; answer = refused.1; capacity = refl }

pub undo_alone-requires : goal.undo_alone-requires
undo_alone-requires g c = grind arith

pub returns : goal.returns
returns g c =
    let said = c.undo_alone.ensures in
    let old = journal c.args.self.now in
    let new = journal c.undo_alone.new.self in
    let goes = undo_at_goes c.args.k old new (is_session c.args.self.now).runs (omega arith) (omega (arith, c.len-len.ensures.entries))
    (sym c.first_dependant.ensures ∙ c.in_default.is) said.entries said.start in
    record {
      state = goes.0;
      entries = said.entries;
      run = undone_run c.args.k old new said.entries said.start (is_session c.undo_alone.new.self).runs;
      answer = goes.1;
      capacity = said.capacity;
    }
