use Rattle.std.proofs.Common.{map, drop}
use Rattle.rd_options.specs.Options.{AreApart}
use Rattle.rd_options.proofs.names.are_apart.Given as goal

-- all viewers are apart if this one and those after it are, and then only
abbrev pub invariant-loop-i : goal.invariant-loop-i
invariant-loop-i l =
    let all = AreApart (map (λ name. name.now) l.names) in
    let left = AreApart (map (λ name. name.now) (drop l.i l.names)) in
    (left → all) × (all → left)
