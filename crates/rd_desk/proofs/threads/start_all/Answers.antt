use Rattle.rd_desk.proofs.Prelude.{◌≤◌, ◌∙◌, ap, arith, length, subst, sym, map-id, AllZip, IsRoomFor, IsStarted, YieldsList-end, YieldsList-from_vec, YieldsList-from_zip, YieldsList-turn, all_zipped_more, sendable}
use Rattle.rd_desk.proofs.ChainLemmas.{AllZip-turn, AllZip-of_firsts, zip_short}
use Rattle.rd_desk.proofs.RoomLemmas.{one_each, room_left}
use Rattle.rd_desk.proofs.threads.start_all.Goals as goal
use Rattle.rd_desk.proofs.threads.start_all.Goals.{in-Ok, in-Err}

pub spawn_with-handle-requires-clause-runs : goal.spawn_with-handle-requires-clause-runs
spawn_with-handle-requires-clause-runs g c κs met =
    let turn = YieldsList-turn (YieldsList-from_zip (YieldsList-from_vec c.args.work.items (cc) (cc)) (YieldsList-from_vec c.args.answers.items (cc) (cc))) c.loop-pass.yielded c.loop-pass.pass-iterator c.loop-pass.yielded_by _ c.next.new.self _ c.in-Some.is c.next.ensures.steps in
    let ready = AllZip-turn IsRoomFor (λ viewer. g.G.Gate.takes c.args.gate.now viewer.0) c.args.work.items c.args.answers.items _ ((c.in-Some.pass, c.in-Some.commands), c.in-Some.room) turn c.requires.own c.requires.answers in (
      (ready.0, ready.1.0, omega (arith, ready.1.1)),
      ((let s = c.type_bounds.send-G-Pass in search sendable depth 20), (let s = c.type_bounds.sync-R in search sendable depth 20), (let s = c.type_bounds.sync-G in search sendable depth 20)),
    )

pub spawn_with-requires-after_bounds : goal.spawn_with-requires-after_bounds
spawn_with-requires-after_bounds g c κs within =
    let turn = YieldsList-turn (YieldsList-from_zip (YieldsList-from_vec c.args.work.items (cc) (cc)) (YieldsList-from_vec c.args.answers.items (cc) (cc))) c.loop-pass.yielded c.loop-pass.pass-iterator c.loop-pass.yielded_by _ c.next.new.self _ c.in-Some.is c.next.ensures.steps in
    let ready = AllZip-turn IsRoomFor (λ viewer. g.G.Gate.takes c.args.gate.now viewer.0) c.args.work.items c.args.answers.items _ ((c.in-Some.pass, c.in-Some.commands), c.in-Some.room) turn c.requires.own c.requires.answers in rw c.in-Err.ensures.err (ready.0, ready.1.0, omega (arith, ready.1.1))

pub push_reserved-requires : goal.push_reserved-requires
push_reserved-requires g c =
    let turn = YieldsList-turn (YieldsList-from_zip (YieldsList-from_vec c.args.work.items (cc) (cc)) (YieldsList-from_vec c.args.answers.items (cc) (cc))) c.loop-pass.yielded c.loop-pass.pass-iterator c.loop-pass.yielded_by _ c.next.new.self _ c.in-Some.is c.next.ensures.steps in
    let short = zip_short c.args.work.items c.args.answers.items in
    room_left _ (length c.args.work.items) _ _ (omega (arith, turn.0)) c.loop-pass.invariant.len c.loop-pass.invariant.capacity

pub loop-pass-preserved : goal.loop-pass-preserved
loop-pass-preserved g c = record {
  are_started = rw c.push_reserved.ensures.items (all_zipped_more (λ pair. IsStarted g.G.Gate.takes g.G.Gate.told c.args.gate.now pair.0) c.loop-pass.yielded c.loop-pass.started.items ((c.in-Some.pass, c.in-Some.commands), c.in-Some.room) c.match-handle.start c.loop-pass.invariant.are_started
      (elim c.match-handle.branch [
        | in-Ok w ↦ let is = w.in-Ok.ensures.ok in rw w.start-is (ap (λ q. q.gate.value) is ∙ c.of.ensures, ap (λ q. q.pass.value) is ∙ c.of-in-loop-pass.ensures, ap (λ q. q.commands.value) is ∙ c.of-in-loop-pass-2.ensures)
        | in-Err w ↦ rw w.start-is (rw w.in-Err.ensures.err at w.spawn_with.ensures)
      ]));
  len = one_each _ _ _ _ c.push_reserved.ensures.len c.loop-pass.invariant.len;
  capacity = subst (λ n. length c.args.work.items ≤ n) (sym c.push_reserved.ensures.capacity) c.loop-pass.invariant.capacity;
}

pub returns : goal.returns
returns g c =
    let over = YieldsList-end (YieldsList-from_zip (YieldsList-from_vec c.args.work.items (cc) (cc)) (YieldsList-from_vec c.args.answers.items (cc) (cc))) c.loop-pass.yielded c.loop-pass.pass-iterator c.loop-pass.yielded_by _ c.next.new.self c.in-None.is c.next.ensures.steps in
    AllZip-of_firsts IsRoomFor (IsStarted g.G.Gate.takes g.G.Gate.told c.args.gate.now) c.args.work.items c.args.answers.items c.loop-pass.started.items c.requires.answers (subst (λ ps. AllZip (λ p. IsStarted g.G.Gate.takes g.G.Gate.told c.args.gate.now p.0) ps c.loop-pass.started.items) (sym (map-id _) ∙ over.0) c.loop-pass.invariant.are_started)
