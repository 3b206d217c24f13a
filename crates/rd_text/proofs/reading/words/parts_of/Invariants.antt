use Rattle.std.proofs.Common.{◌≡◌}
use Rattle.rd_text.proofs.reading.words.parts_of.Given as goal

-- the parts that were given so far are kept
abbrev pub invariant-loop-part : goal.invariant-loop-part
invariant-loop-part l = l.parts.items ≡ l.yielded
