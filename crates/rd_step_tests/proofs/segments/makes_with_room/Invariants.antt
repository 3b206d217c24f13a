use Rattle.std.proofs.Common.{◌≡◌}
use Rattle.rd_segments.specs.Space.{list_count}
use Rattle.rd_step_tests.proofs.segments.makes_with_room.Given as goal

-- making a segment leaves the lists of makers as many
abbrev pub invariant-loop-n : goal.invariant-loop-n
invariant-loop-n g l = list_count l.space ≡ 3
