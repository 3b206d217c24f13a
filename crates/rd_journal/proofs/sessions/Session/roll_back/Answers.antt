use Rattle.rd_journal.proofs.Prelude.{◌≡◌, None, sym, ◌∙◌, first_dependant, journal}
use Rattle.rd_journal.proofs.RolledBack.{alone_rolled}
use Rattle.rd_journal.proofs.sessions.Session.roll_back.Goals as goal

pub returns-in-None-clause-entries : goal.returns-in-None-clause-entries
returns-in-None-clause-entries g c =
    let old = journal c.args.self.now in
    let free : first_dependant old.live c.args.k ≡ None = sym c.first_dependant.ensures ∙ c.in-None.is in
    alone_rolled c.args.k old (journal c.undo_alone.new.self) c.requires.some c.requires.position free c.undo_alone.ensures.entries
