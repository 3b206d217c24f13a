use Rattle.rd_desk.proofs.Prelude.{◌∙◌, ◌≤◌, length, subst, sym, map-id, AllZip, IsDone, IsJoined, YieldsList-end, YieldsList-from_vec, YieldsList-turn, all_zipped_more}
use Rattle.rd_desk.proofs.RoomLemmas.{one_each, room_left}
use Rattle.rd_desk.proofs.threads.join_all.Goals as goal
use Rattle.rd_desk.proofs.threads.join_all.Goals.{in-Err, in-Ok}

pub loop-handle-preserved : goal.loop-handle-preserved
loop-handle-preserved g c = record {
  are_joined = rw c.push_reserved.ensures.items (all_zipped_more (IsJoined g.G.Gate.takes g.G.Gate.told) c.loop-handle.yielded c.loop-handle.dones.items c.in-Some.handle c.match-handle.done c.loop-handle.invariant.are_joined
      (elim c.match-handle.branch [
        | in-Err w ↦ λ gate viewer started. rw w.done-is (rw w.in-Err.is at started)
        | in-Ok w ↦ λ gate viewer started. let s = rw w.in-Ok.is at started in let T = g.G.Gate.takes in let U = g.G.Gate.told in let h = w.in-Ok.handle.promise in let r = w.join-done.result in
            rw w.done-is (subst (λ x. IsDone (T x) (U x) viewer.0 viewer.1.items r) s.0 (subst (λ p. IsDone (T h.gate.value) (U h.gate.value) p viewer.1.items r) s.1 (subst (λ cs. IsDone (T h.gate.value) (U h.gate.value) h.pass.value cs.items r) s.2 w.join-done.ensures)))
      ]));
  len = one_each _ _ _ _ c.push_reserved.ensures.len c.loop-handle.invariant.len;
  capacity = subst (λ n. length c.args.started.items ≤ n) (sym c.push_reserved.ensures.capacity) c.loop-handle.invariant.capacity;
}

pub push_reserved-requires : goal.push_reserved-requires
push_reserved-requires g c =
    let turn = YieldsList-turn (YieldsList-from_vec c.args.started.items (cc) (cc)) c.loop-handle.yielded c.loop-handle.handle-iterator c.loop-handle.yielded_by _ c.next.new.self _ c.in-Some.is c.next.ensures.steps in
    room_left _ _ _ _ turn.0 c.loop-handle.invariant.len c.loop-handle.invariant.capacity

pub returns : goal.returns
returns g c =
    let over = YieldsList-end (YieldsList-from_vec c.args.started.items (cc) (cc)) c.loop-handle.yielded c.loop-handle.handle-iterator c.loop-handle.yielded_by _ c.next.new.self c.in-None.is c.next.ensures.steps in
    subst (λ hs. AllZip (IsJoined g.G.Gate.takes g.G.Gate.told) hs c.loop-handle.dones.items) (sym (map-id _) ∙ over.0) c.loop-handle.invariant.are_joined
