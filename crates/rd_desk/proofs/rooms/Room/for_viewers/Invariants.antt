use Rattle.rd_desk.proofs.Prelude.{◌≡◌, ◌≤◌, take, length, vec_len, vec_capacity, AllZip, IsRoomFor}
use Rattle.rd_desk.proofs.rooms.Room.for_viewers.Given as goal

abbrev pub invariant-loop-i : goal.invariant-loop-i
invariant-loop-i g l = record {
  rooms : AllZip IsRoomFor (take l.i l.work.items) l.answers.items;
  len : vec_len l.answers ≡ l.i;
  capacity : length l.work.items ≤ vec_capacity l.answers;
}
