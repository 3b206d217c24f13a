use Rattle.std.proofs.Common.{◌≡◌, drop}
use Rattle.rd_program.specs.Endings.{viewers_status}
use Rattle.rd_program.proofs.endings.viewers_status.Given as goal

-- the viewers before this one came to their ends
abbrev pub invariant-loop-end : goal.invariant-loop-end
invariant-loop-end l = viewers_status (drop l.end-index l.ends) ≡ viewers_status l.ends
