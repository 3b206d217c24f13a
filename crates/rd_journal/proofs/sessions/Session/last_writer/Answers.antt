use Rattle.rd_journal.proofs.Prelude.{ℕ, ◌∙◌, ◌++◌, length, take, refl, ap, take_at, live_entries, ahead_entries, kept_entries, last_position, writes_to}
use Rattle.rd_journal.proofs.sessions.Session.last_writer.Goals as goal

pub returns : goal.returns
returns g c =
    let self = c.args.self.now in
    let live = live_entries self.entries in
    let ahead = ahead_entries self.entries in
    c.last_writer.ensures.answer (kept_entries self.entries) self.indexed
    ∙ ap (λ (n : ℕ). last_position (writes_to c.args.place) (take n (live ++ ahead))) c.len.ensures.entries
    ∙ ap (last_position (writes_to c.args.place)) (take_at live ahead (length live) refl)
