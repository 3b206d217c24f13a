use Rattle.std.proofs.Common.{map, drop}
use Rattle.std.specs.List.{AllByRecursion}
use Rattle.rd_options.specs.Options.{IsApartFrom}
use Rattle.rd_options.proofs.names.is_apart_from_all.Given as goal

-- the viewer is apart from all others if it is apart from this one and those after it, and then only
abbrev pub invariant-loop-other : goal.invariant-loop-other
invariant-loop-other l =
    let all = AllByRecursion (IsApartFrom l.name) (map (λ other. other.now) l.others) in
    let left = AllByRecursion (IsApartFrom l.name) (map (λ other. other.now) (drop l.other-index l.others)) in
    (left → all) × (all → left)
