use Rattle.rd_journal.proofs.Prelude.{List, [], ◌++◌, sym, subst, arith, model, room, Entry, IsIndexOf, opened_with, whole_journal, events}
use Rattle.rd_journal.proofs.Calls.{opened_is, opened_session}
use Rattle.rd_journal.proofs.sessions.Session.open.Goals as goal

pub invariant_of-result : goal.invariant_of-result
invariant_of-result g c = record {
  kept =
      opened_session (whole_journal (opened_with c.of-opened.result) (model c.args.world) c.new.result) (room c.args.world) c.args.world.well_formed
      (opened_is c.of-opened.result c.args.world c.of-opened.ensures) c.new.ensures.live c.new.ensures.ahead;
  within = omega arith;
  indexed = subst (λ (es : List Entry). IsIndexOf c.new-2.result es) (λ i. sym c.new.ensures.live i ++ sym c.new.ensures.ahead i) c.new-2.ensures;
}

pub returns-clause-state : goal.returns-clause-state
returns-clause-state g c =
    let start = opened_is c.of-opened.result c.args.world c.of-opened.ensures in
    λ i. record { start = start i; live = events (c.new.ensures.live i); undone = [] }

pub returns-clause-journal : goal.returns-clause-journal
returns-clause-journal g c =
    let start = opened_is c.of-opened.result c.args.world c.of-opened.ensures in
    λ i. record { start = start i; world = model c.args.world; live = c.new.ensures.live i; undone = [] }
