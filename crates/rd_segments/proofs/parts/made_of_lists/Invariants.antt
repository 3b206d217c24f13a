use Rattle.rd_segments.proofs.Prelude.{◌≡◌, length, take, vec_len, vec_capacity}
use Rattle.std.specs.Fn.{FnReturnsAt}
use Rattle.std.specs.List.{AllZip}
use Rattle.rd_segments.proofs.parts.made_of_lists.Given as goal

abbrev pub invariant-loop-m : goal.invariant-loop-m
invariant-loop-m g l =
    (vec_len l.made ≡ l.m) × (vec_capacity l.made ≡ length l.fn.lists.items)
    × AllZip (λ list its. AllZip (FnReturnsAt g.F.Fn l.make) list.items its.items) (take l.m l.fn.lists.items) l.made.items
