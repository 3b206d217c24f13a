use Rattle.rd_desk.proofs.Prelude.{arith, ◌≤◌, ◌∙◌, ap, length, map, subst, sym, map-id, YieldsList-end, YieldsList-from_vec, YieldsList-turn, run_ending}
use Rattle.rd_desk.proofs.RoomLemmas.{mapped_more, one_each, room_left}
use Rattle.rd_desk.proofs.viewers.run_endings.Goals as goal

pub loop-pass-preserved : goal.loop-pass-preserved
loop-pass-preserved g c = record {
  rans = mapped_more run_ending c.loop-pass.yielded _ _ _ _ c.push_reserved.ensures.items c.loop-pass.invariant.rans (grind arith);
  len = one_each _ _ _ _ c.push_reserved.ensures.len c.loop-pass.invariant.len;
  capacity = subst (λ n. length c.args.dones.items ≤ n) (sym c.push_reserved.ensures.capacity) c.loop-pass.invariant.capacity;
}

pub push_reserved-requires : goal.push_reserved-requires
push_reserved-requires g c =
    let turn = YieldsList-turn (YieldsList-from_vec c.args.dones.items (cc) (cc)) c.loop-pass.yielded c.loop-pass.pass-iterator c.loop-pass.yielded_by _ c.next.new.self _ c.in-Some.is c.next.ensures.steps in
    room_left _ _ _ _ turn.0 c.loop-pass.invariant.len c.loop-pass.invariant.capacity

pub returns : goal.returns
returns g c =
    let over = YieldsList-end (YieldsList-from_vec c.args.dones.items (cc) (cc)) c.loop-pass.yielded c.loop-pass.pass-iterator c.loop-pass.yielded_by _ c.next.new.self c.in-None.is c.next.ensures.steps in
    c.loop-pass.invariant.rans ∙ ap (map run_ending) (sym (map-id _) ∙ over.0)
