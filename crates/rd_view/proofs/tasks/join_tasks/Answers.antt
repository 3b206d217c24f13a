use Rattle.rd_view.proofs.Prelude.{◌∙◌, ◌≤◌, length, subst, sym, map-id, AllZip, IsTaskEnd, IsTaskJoined, YieldsList-end, YieldsList-from_vec, YieldsList-turn, all_zipped_more}
use Rattle.rd_desk.proofs.RoomLemmas.{one_each, room_left}
use Rattle.rd_view.proofs.tasks.join_tasks.Goals as goal
use Rattle.rd_view.proofs.tasks.join_tasks.Goals.{in-Err, in-Ok}

pub loop-handle-preserved : goal.loop-handle-preserved
loop-handle-preserved g c = record {
  are_joined = rw c.push_reserved.ensures.items (all_zipped_more (IsTaskJoined g.T.Task.runs) c.loop-handle.yielded c.loop-handle.ends.items c.in-Some.handle c.match-handle.end c.loop-handle.invariant.are_joined
      (elim c.match-handle.branch [
        | in-Err w ↦ λ task started. rw w.end-is (rw w.in-Err.is at started)
        | in-Ok w ↦ λ task started. let s = rw w.in-Ok.is at started in rw w.end-is (subst (λ t. IsTaskEnd g.T.Task.runs t w.join-end.result) s w.join-end.ensures)
      ]));
  len = one_each _ _ _ _ c.push_reserved.ensures.len c.loop-handle.invariant.len;
  capacity = subst (λ n. length c.args.started.items ≤ n) (sym c.push_reserved.ensures.capacity) c.loop-handle.invariant.capacity;
}

pub push_reserved-requires : goal.push_reserved-requires
push_reserved-requires g c =
    let turn = YieldsList-turn (YieldsList-from_vec c.args.started.items (cc) (cc)) c.loop-handle.yielded c.loop-handle.handle-iterator c.loop-handle.yielded_by _ c.next.new.self _ c.in-Some.is c.next.ensures.steps in
    room_left _ _ _ _ turn.0 c.loop-handle.invariant.len c.loop-handle.invariant.capacity

pub returns : goal.returns
returns g c =
    let over = YieldsList-end (YieldsList-from_vec c.args.started.items (cc) (cc)) c.loop-handle.yielded c.loop-handle.handle-iterator c.loop-handle.yielded_by _ c.next.new.self c.in-None.is c.next.ensures.steps in
    subst (λ hs. AllZip (IsTaskJoined g.T.Task.runs) hs c.loop-handle.ends.items) (sym (map-id _) ∙ over.0) c.loop-handle.invariant.are_joined
