-- Each turn makes room for one more actor and takes none from the others. What an actor needs
-- beyond the room that undoing returns is its makings among the given entries less those among the
-- dropped ones (`asked`).
use Rattle.rd_journal.proofs.Prelude.{◌≡◌, ℕ, zero, suc, ◌+◌, ◌-◌, ◌<◌, ◌∙◌, IsSome, List, get_or, subst, sym, arith, rules, World, model, room, Entry, error_passed_up, room_returned_by, room_after_undoing}
use Rattle.rd_journal.proofs.Switching.{room_for_one_more, room_for_actors}
use Rattle.rd_journal.proofs.sessions.switching.make_room_for_makings.Goals as goal

-- for how many makings of the next actor room is asked
asked : (dropped given : List Entry) (counts left : List ℕ) (number actor : ℕ) → ((m : ℕ) → m < 256 → get_or counts m 0 ≡ room_returned_by given m)
    → ((m : ℕ) → m < 256 → get_or left m 0 ≡ get_or counts m 0 - room_returned_by dropped m) → actor ≡ number + 1 → number + 1 < 256
    → get_or left actor 0 ≡ room_returned_by given (number + 1) - room_returned_by dropped (number + 1)
asked dropped given counts left number actor all less its small = grind arith

pub make_room-requires : goal.make_room-requires
make_room-requires g c =
    let next : suc c.loop-number.number ≡ c.loop-number.number + 1 = omega arith in
    let there : IsSome ((model c.args.world.now).actor (suc c.loop-number.number)) = (c.actors-number-end.ensures.count c.loop-number.number).1 c.loop-number-test.true in (
      omega arith,
      subst (λ (n : ℕ). IsSome ((model c.loop-number.world).actor n)) next
          (subst (λ (w : World). IsSome (w.actor (suc c.loop-number.number))) (sym c.loop-number.invariant.same) there),
    )

pub returns-in_err-make_room-clause-unchanged : goal.returns-in_err-make_room-clause-unchanged
returns-in_err-make_room-clause-unchanged g c = c.in_err-make_room.ensures.unchanged ∙ c.loop-number.invariant.same

pub loop-number-preserved : goal.loop-number-preserved
loop-number-preserved g c = record {
  same = c.make_room.ensures.unchanged ∙ c.loop-number.invariant.same;
  made =
      room_for_one_more c.args.given.now c.loop-number.number (room_after_undoing c.args.dropped.now (room c.loop-number.world)) (room_after_undoing c.args.dropped.now (room c.make_room.new.self))
      c.loop-number.invariant.made (λ m. let b = c.make_room.ensures.room.kept m in omega arith) (let h = c.in_ok-make_room.ensures.room.ok in let its = asked c.args.dropped.now c.args.given.now c.making_counts.result c.making_counts_beyond-counts.result c.loop-number.number c.from.result c.making_counts.ensures
      c.making_counts_beyond-counts.ensures c.from.ensures (omega (arith, c.loop-number-test.true, c.actors-number-end.ensures.within)) in omega arith);
  more = λ m. let a = c.loop-number.invariant.more m in let b = c.make_room.ensures.room.kept m in omega arith;
}

pub returns-clause-ok : goal.returns-clause-ok
returns-clause-ok g c =
    room_for_actors (model c.args.world.now) (model c.loop-number.world) c.args.given.now c.loop-number.number (room_after_undoing c.args.dropped.now (room c.loop-number.world))
    c.loop-number.invariant.same c.loop-number.invariant.made
    (λ (h : IsSome ((model c.args.world.now).actor zero)). cc)
    (λ n h. let low = (c.actors-number-end.ensures.count n).0 h in omega arith)

pub returns-in_err-make_room-clause-err : goal.returns-in_err-make_room-clause-err
returns-in_err-make_room-clause-err g c =
    let more = c.loop-number.invariant.more (c.loop-number.number + 1) in
    let lacks = c.in_err-make_room.ensures.room.err in
    error_passed_up _ c.in_err-make_room.field-0.0 c.from_residual.result c.from_residual.ensures.1 (
      c.in_err-make_room.ensures.err,
      (
        c.loop-number.number + 1,
        let its = asked c.args.dropped.now c.args.given.now c.making_counts.result c.making_counts_beyond-counts.result c.loop-number.number c.from.result c.making_counts.ensures
            c.making_counts_beyond-counts.ensures c.from.ensures (omega (arith, c.loop-number-test.true, c.actors-number-end.ensures.within)) in omega arith,
      ),
    )

pub returns-in_err-make_room-clause-succeeds : goal.returns-in_err-make_room-clause-succeeds
returns-in_err-make_room-clause-succeeds g c none =
    let its = asked c.args.dropped.now c.args.given.now c.making_counts.result c.making_counts_beyond-counts.result c.loop-number.number c.from.result c.making_counts.ensures
    c.making_counts_beyond-counts.ensures c.from.ensures (omega (arith, c.loop-number-test.true, c.actors-number-end.ensures.within)) in
    grind arith

pub returns-in_err-make_room-clause-room : goal.returns-in_err-make_room-clause-room
returns-in_err-make_room-clause-room g c m = search (rules, arith)
