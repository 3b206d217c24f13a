-- The first `next` steps have led from the old world to the present one, and the others are those
-- of a run from there. So the next step can be made, and leaves its own entry.
use Rattle.rd_journal.proofs.Prelude.{◌≡◌, ◌∙◌, ◌+◌, ◌<◌, List, [], ◌∷◌, ◌++◌, Ok, take, drop, length, refl, sym, ap, subst, arith, drop_all, take_all, take_more, World, Stepped, model, room, run, Entry, first_step, events, IsRunFrom}
use Rattle.rd_journal.proofs.ListLemmas.{drop_one_less}
use Rattle.rd_journal.proofs.RoomLemmas.{redo_room, redone_room}
use Rattle.rd_journal.proofs.Runs.{ran_more}
use Rattle.rd_journal.proofs.sessions.stepping.step_all_again.Goals as goal

pub loop-next-init : goal.loop-next-init
loop-next-init g c = record { ran = refl; rest = c.requires.runs; more = λ rest has. has; room = c.requires.room }

pub step_again-requires : goal.step_again-requires
step_again-requires g c =
    let xs = c.args.steps.now in
    let n = c.loop-next.next in
    let w = model c.loop-next.world in
    let x = c.at.result.now in
    let here = drop_one_less xs n x (omega (arith, c.loop-next-test.true, c.len-next-end.ensures)) c.at.ensures in
    let first = first_step w x (drop (n + 1) xs) (subst (λ (ys : List Entry). IsRunFrom w ys) here c.loop-next.invariant.rest) in (
      omega (arith, c.loop-next.world.small),
      (
        (first.after, first.goes),
        redo_room w first.after (drop n xs) (drop (n + 1) xs) x (room c.loop-next.world) here first.goes c.loop-next.invariant.room,
      ),
    )

pub loop-next-preserved : goal.loop-next-preserved
loop-next-preserved g c =
    let xs = c.args.steps.now in
    let n = c.loop-next.next in
    let w = model c.loop-next.world in
    let v = model c.step_again.new.self in
    let x = c.at.result.now in
    let within : n < length xs = omega (arith, c.loop-next-test.true, c.len-next-end.ensures) in
    let here = drop_one_less xs n x within c.at.ensures in
    let first = first_step w x (drop (n + 1) xs) (subst (λ (ys : List Entry). IsRunFrom w ys) here c.loop-next.invariant.rest) in
    let both : record { world = first.after; entry = x } ≡ record { world = v; entry = x } = cc (first.goes, c.step_again.ensures.done) in
    let same : first.after ≡ v = ap (λ (s : Stepped). s.world) both in
    let more : take (n + 1) xs ≡ take n xs ++ x ∷ [] = take_more xs n x within ∙ ap (λ (y : Entry). take n xs ++ y ∷ []) (sym c.at.ensures) in
    record {
      ran =
          subst (λ (ys : List Entry). run (model c.args.world.now) (events ys) ≡ Ok (record { world = v; entries = ys })) (sym more)
          (ran_more (model c.args.world.now) w v (take n xs) x c.loop-next.invariant.ran c.step_again.ensures.done);
      rest = subst (λ (u : World). IsRunFrom u (drop (n + 1) xs)) same first.rest;
      room =
          redone_room w v (drop n xs) (drop (n + 1) xs) x (room c.loop-next.world) (room c.step_again.new.self) here c.step_again.ensures.done
          c.loop-next.invariant.room c.step_again.ensures.room.used;
      more = λ rest has.
          redone_room w v (drop n xs ++ rest) (drop (n + 1) xs ++ rest) x (room c.loop-next.world) (room c.step_again.new.self)
          (ap (λ (ys : List Entry). ys ++ rest) here) c.step_again.ensures.done (c.loop-next.invariant.more rest has) c.step_again.ensures.room.used;
    }

pub returns-clause-ran : goal.returns-clause-ran
returns-clause-ran g c =
    subst (λ (ys : List Entry). run (model c.args.world.now) (events ys) ≡ Ok (record { world = model c.loop-next.world; entries = ys }))
    (take_all c.loop-next.next c.args.steps.now (omega (arith, c.loop-next-test.false, c.len-next-end.ensures))) c.loop-next.invariant.ran

pub returns-clause-room : goal.returns-clause-room
returns-clause-room g c = grind (arith, drop_all, c.loop-next-test.false, c.len-next-end.ensures, c.loop-next.invariant.more)
