use Rattle.rd_journal.proofs.Prelude.{◌≡◌, ◌++◌, List, Ok, take, drop, model, room, run, Entry, events, IsRunFrom, HasRoomToRedo}
use Rattle.rd_journal.proofs.sessions.stepping.step_all_again.Given as goal

abbrev pub invariant-loop-next : goal.invariant-loop-next
invariant-loop-next g l = record {
  ran : run (model l.fn.world) (events (take l.next l.steps)) ≡ Ok (record { world = model l.world; entries = take l.next l.steps });
  rest : IsRunFrom (model l.world) (drop l.next l.steps);
  more : (rest : List Entry) → HasRoomToRedo (l.steps ++ rest) (room l.fn.world) → HasRoomToRedo (drop l.next l.steps ++ rest) (room l.world);
  room : HasRoomToRedo (drop l.next l.steps) (room l.world);
}
