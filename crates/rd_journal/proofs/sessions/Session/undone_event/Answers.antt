use Rattle.rd_journal.proofs.Prelude.{◌-◌, ◌<◌, ◌∙◌, sym, arith, length-take, get_or-take, ahead_entries, journal}
use Rattle.rd_journal.proofs.Runs.{event_missing, event_found}
use Rattle.rd_journal.proofs.sessions.Session.undone_event.Goals as goal
use Rattle.rd_journal.proofs.sessions.Session.undone_event.Goals.{then-i-eq0-via-then-i-eq0, then-i-eq0-via-else-i-eq0+then-i-undone_len}

pub returns-then-i-eq0 : goal.returns-then-i-eq0
returns-then-i-eq0 g c = grind (arith, event_missing, then-i-eq0-via-then-i-eq0, then-i-eq0-via-else-i-eq0+then-i-undone_len)

pub ahead_at-requires : goal.ahead_at-requires
ahead_at-requires g c = grind (arith, length-take)

pub returns : goal.returns
returns g c =
    let self = c.args.self.now in
    let all = ahead_entries self.entries in
    let x = c.ahead_at.result.now in
    let below : c.args.i - 1 < self.undone = omega (arith, c.undone_len.ensures.entries, length-take self.undone all) in
    event_found (journal self).undone c.args.i x (omega arith) (omega (arith, c.undone_len.ensures.entries))
    (c.ahead_at.ensures ∙ sym (get_or-take self.undone all (c.args.i - 1) x below))
