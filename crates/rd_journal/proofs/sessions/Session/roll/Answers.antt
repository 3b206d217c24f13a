use Rattle.rd_journal.proofs.Prelude.{inl, inr, refl, arith, journal}
use Rattle.rd_journal.proofs.Ahead.{is_session}
use Rattle.rd_journal.proofs.RolledBack.{roll_missing, roll_goes, rolled_run}
use Rattle.rd_journal.proofs.sessions.Session.roll.Goals as goal
use Rattle.rd_journal.proofs.sessions.Session.roll.Goals.{then-len-k-via-then-len-k, then-len-k-via-else-len-k+then-k-eq0}

pub returns-then-len-k : goal.returns-then-len-k
returns-then-len-k g c =
    let missing = roll_missing (journal c.args.self.now) c.len-len.result c.args.k c.len-len.ensures.entries
    (elim c.then-len-k.branch [ then-len-k-via-then-len-k w ↦ inr (omega arith) | then-len-k-via-else-len-k+then-k-eq0 w ↦ inl (omega arith) ]) in
    record { state = (missing.0, refl); entries = tt; run = tt; answer = missing.1; capacity = refl }

pub returns : goal.returns
returns g c =
    let said = c.roll_back.ensures in
    let old = journal c.args.self.now in
    let new = journal c.roll_back.new.self in
    let goes = roll_goes c.args.k old new (is_session c.args.self.now).runs (omega arith) (omega (arith, c.len-len.ensures.entries)) said.entries said.start in
    record {
      state = goes.0;
      entries = said.entries;
      run = rolled_run c.args.k old new said.entries said.start (is_session c.roll_back.new.self).runs;
      answer = goes.1;
      capacity = said.capacity;
    }
