use Rattle.std.proofs.Common.{◌≡◌, ◌+◌, ◌++◌, ℕ, List, drop, false}
use Rattle.std.specs.Io.KnownBytes.{Appends}
use Rattle.rd_program.specs.Endings.{viewer_lines}
use Rattle.rd_program.proofs.endings.write_viewer_lines.Given as goal

-- the stream works, and has taken the lines for the viewers before this one
abbrev pub invariant-loop-i : goal.invariant-loop-i
invariant-loop-i g l =
    (g.K.Sink.has_failed l.stream ≡ false)
    × ((front : List ℕ) × Appends (g.K.Sink.contents l.initial.stream) (g.K.Sink.contents l.stream) front × (front ++ viewer_lines (l.i + 1) (drop l.i l.ends) ≡ viewer_lines 1 l.ends))
