use Rattle.rd_journal.proofs.Prelude.{◌∙◌, sym, ap, arith, length-append}
use Rattle.rd_journal.proofs.Finding.{if_live, within_live, behind_live, found_live}
use Rattle.rd_journal.proofs.sessions.Session.first_dependant.Goals as goal

pub first-requires-clause-within : goal.first-requires-clause-within
first-requires-clause-within g c = grind (arith, length-append)

pub returns-in-None : goal.returns-in-None
returns-in-None g c =
    let is = found_live c.live_at-entry.result.now _ _ c.args.k c.first.result c.requires.some c.requires.within c.live_at-entry.ensures
    (c.first.ensures.answer _ c.args.self.now.indexed) in
    sym (is ∙ ap (if_live _) c.in-None.is)

pub returns-then-number-len : goal.returns-then-number-len
returns-then-number-len g c =
    let is = found_live c.live_at-entry.result.now _ _ c.args.k c.first.result c.requires.some c.requires.within c.live_at-entry.ensures
    (c.first.ensures.answer _ c.args.self.now.indexed) in
    behind_live _ _ (omega (arith, c.len.ensures.entries, c.if-number-len.true)) ∙ sym (is ∙ ap (if_live _) c.in-Some.is)

pub returns-else-number-len : goal.returns-else-number-len
returns-else-number-len g c =
    let is = found_live c.live_at-entry.result.now _ _ c.args.k c.first.result c.requires.some c.requires.within c.live_at-entry.ensures
    (c.first.ensures.answer _ c.args.self.now.indexed) in
    within_live _ _ (omega (arith, c.len.ensures.entries, c.if-number-len.false)) ∙ sym (is ∙ ap (if_live _) c.in-Some.is)
