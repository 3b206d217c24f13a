use Rattle.rd_desk.proofs.Prelude.{arith, subst, AllZip, IsRoomFor, take_all}
use Rattle.rd_desk.proofs.ChainLemmas.{AllZip-take_more}
use Rattle.rd_desk.proofs.rooms.Room.for_viewers.Goals as goal

pub loop-i-preserved : goal.loop-i-preserved
loop-i-preserved g c = let k = c.index.result.now.1.ok in let n = c.len-in-loop-i.ensures in let m = c.in_ok-room.ensures.exact in record {
  rooms = rw c.push_reserved.ensures.items (AllZip-take_more IsRoomFor c.args.work.now.items c.loop-i.answers.items c.loop-i.i c.index.result.now c.in_ok-room.room (omega arith) c.index.ensures c.loop-i.invariant.rooms (c.in_ok-room.ensures.items, omega arith));
  len = omega arith;
  capacity = omega arith;
}

pub returns-clause-answers : goal.returns-clause-answers
returns-clause-answers g c = subst (λ ws. AllZip IsRoomFor ws c.loop-i.answers.items) (take_all c.loop-i.i c.args.work.now.items (omega arith)) c.loop-i.invariant.rooms
