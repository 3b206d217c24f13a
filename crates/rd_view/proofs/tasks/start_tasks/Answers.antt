use Rattle.std.specs.Prelude.{get_or}
use Rattle.rd_view.proofs.Prelude.{◌≡◌, ◌<◌, ◌≤◌, ◌∙◌, ℕ, zero, suc, List, [], ◌∷◌, ap, arith, length, subst, sym, map-id, AllByRecursion, AllZip, IsTaskStarted, YieldsList-end, YieldsList-from_vec, YieldsList-turn, all_zipped_more, sendable}
use Rattle.rd_desk.proofs.RoomLemmas.{one_each, room_left}
use Rattle.rd_view.proofs.tasks.start_tasks.Goals as goal
use Rattle.rd_view.proofs.tasks.start_tasks.Goals.{in-Ok, in-Err}

-- where each x has P, so does the one that a loop over the list takes
each_turn : {A : Type 0} (P : A → Type 0) (xs : List A) (i : ℕ) (x : A) → (i < length xs) × (x ≡ get_or xs i x) → AllByRecursion P xs → P x
each_turn P [] i x turn each = absurd (omega arith)
each_turn P (y ∷ ys) zero x turn each = rw turn.1 each.0
each_turn P (y ∷ ys) (suc i) x turn each = each_turn P ys i x (omega arith, turn.1) each.1

pub spawn_with-handle-requires-clause-runs : goal.spawn_with-handle-requires-clause-runs
spawn_with-handle-requires-clause-runs g c κs met =
    let turn = YieldsList-turn (YieldsList-from_vec c.args.tasks.items (cc) (cc)) c.loop-task.yielded c.loop-task.task-iterator c.loop-task.yielded_by _ c.next.new.self _ c.in-Some.is c.next.ensures.steps in (
      each_turn g.T.Task.can_run c.args.tasks.items _ c.in-Some.task turn c.requires.ready,
      ((let s = c.type_bounds.send-T in search sendable depth 20), (let s = c.type_bounds.send-T-Done in search sendable depth 20), (let s = c.type_bounds.sync-R in search sendable depth 20)),
    )

pub spawn_with-requires-after_bounds : goal.spawn_with-requires-after_bounds
spawn_with-requires-after_bounds g c κs within =
    let turn = YieldsList-turn (YieldsList-from_vec c.args.tasks.items (cc) (cc)) c.loop-task.yielded c.loop-task.task-iterator c.loop-task.yielded_by _ c.next.new.self _ c.in-Some.is c.next.ensures.steps in
    rw c.in-Err.ensures.err (each_turn g.T.Task.can_run c.args.tasks.items _ c.in-Some.task turn c.requires.ready)

pub push_reserved-requires : goal.push_reserved-requires
push_reserved-requires g c =
    let turn = YieldsList-turn (YieldsList-from_vec c.args.tasks.items (cc) (cc)) c.loop-task.yielded c.loop-task.task-iterator c.loop-task.yielded_by _ c.next.new.self _ c.in-Some.is c.next.ensures.steps in
    room_left _ _ _ _ turn.0 c.loop-task.invariant.len c.loop-task.invariant.capacity

pub loop-task-preserved : goal.loop-task-preserved
loop-task-preserved g c = record {
  are_started = rw c.push_reserved.ensures.items (all_zipped_more (IsTaskStarted g.T.Task.runs) c.loop-task.yielded c.loop-task.started.items c.in-Some.task c.match-handle.start c.loop-task.invariant.are_started
      (elim c.match-handle.branch [
        | in-Ok w ↦ rw w.start-is (ap (λ q. q.task.value) w.in-Ok.ensures.ok ∙ c.of.ensures)
        | in-Err w ↦ rw w.start-is (rw w.in-Err.ensures.err at w.spawn_with.ensures)
      ]));
  len = one_each _ _ _ _ c.push_reserved.ensures.len c.loop-task.invariant.len;
  capacity = subst (λ n. length c.args.tasks.items ≤ n) (sym c.push_reserved.ensures.capacity) c.loop-task.invariant.capacity;
}

pub returns : goal.returns
returns g c =
    let over = YieldsList-end (YieldsList-from_vec c.args.tasks.items (cc) (cc)) c.loop-task.yielded c.loop-task.task-iterator c.loop-task.yielded_by _ c.next.new.self c.in-None.is c.next.ensures.steps in
    subst (λ ts. AllZip (IsTaskStarted g.T.Task.runs) ts c.loop-task.started.items) (sym (map-id _) ∙ over.0) c.loop-task.invariant.are_started
