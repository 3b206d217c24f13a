use Rattle.rd_journal.proofs.Prelude.{List, refl, ◌∙◌, ap, subst, arith, drop, OnOk, model, room, Entry, ActorsHaveRoom, room_after_undoing}
use Rattle.rd_journal.proofs.Calls.{still, unchanged}
use Rattle.rd_journal.proofs.sessions.Session.make_room_to_switch.Goals as goal

pub invariant_of-self : goal.invariant_of-self
invariant_of-self g c = grind (arith, still)

pub invariant_of-self-2 : goal.invariant_of-self-2
invariant_of-self-2 g c =
    let is = still c.args.self.now c.make_room_for_makings.new.world c.make_room_for.new.self c.make_room_for_makings.ensures.unchanged c.make_room_for.ensures.live
    c.make_room_for.ensures.ahead c.make_room_for_makings.ensures.room in
    record { kept = is.kept; within = is.within; indexed = is.indexed }

pub returns-in_err-make_room_for-clause-unchanged : goal.returns-in_err-make_room_for-clause-unchanged
returns-in_err-make_room_for-clause-unchanged g c = unchanged _ _ refl refl c.make_room_for.ensures.live c.make_room_for.ensures.ahead refl

pub returns-clause-unchanged : goal.returns-clause-unchanged
returns-clause-unchanged g c = unchanged _ _ refl c.make_room_for_makings.ensures.unchanged c.make_room_for.ensures.live c.make_room_for.ensures.ahead refl

pub returns-clause-makings : goal.returns-clause-makings
returns-clause-makings g c =
    let world = c.make_room_for_makings.new.world in
    subst (λ (xs : List Entry). OnOk c.make_room_for_makings.result (ActorsHaveRoom (model world) c.args.given.now (room_after_undoing xs (room world))))
    (c.after.ensures ∙ ap (drop c.args.kept) c.live.ensures) c.make_room_for_makings.ensures.ok
