-- The room that is made for a viewer's answers. A viewer is its pass (`.0`) with its commands
-- (`.1`).
use Rattle.std.specs.Prelude.{◌≡◌, [], length, Vec, vec_capacity}

-- the list for this viewer's answers is empty, and has room for just one answer to each of its
-- commands
abbrev pub IsRoomFor : {P C A Z Y : Type 0} → P × Vec C Z → Vec A Y → Type 0
IsRoomFor viewer room = (room.items ≡ []) × (vec_capacity room ≡ length viewer.1.items)
