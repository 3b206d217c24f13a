use Rattle.std.proofs.Common.{◌≡◌, ◌-◌, ◌++◌, map, take, drop}
use Rattle.rd_depend.proofs.index.lists.lower.Given as goal

abbrev pub invariant-loop-index : goal.invariant-loop-index
invariant-loop-index l = l.positions ≡ map (λ p. p - 1) (take l.index l.fn.positions) ++ drop l.index l.fn.positions
