use Rattle.rd_text.proofs.Prelude.{map, AllZip, Says}
use Rattle.rd_text.proofs.reading.whole_texts.lines.Given as goal

-- what the lines say that were given so far
abbrev pub invariant-loop-line : goal.invariant-loop-line
invariant-loop-line l = AllZip Says (map (λ line. line.now) l.yielded) l.said.items
