use Rattle.rd_segments.proofs.Prelude.{◌≡◌, length, take, vec_len, vec_capacity}
use Rattle.std.specs.Fn.{FnReturnsAt}
use Rattle.std.specs.List.{AllZip}
use Rattle.rd_segments.proofs.parts.made_of_list.Given as goal

abbrev pub invariant-loop-n : goal.invariant-loop-n
invariant-loop-n g l =
    (vec_len l.made ≡ l.n) × (vec_capacity l.made ≡ length l.fn.list.items)
    × AllZip (FnReturnsAt g.F.Fn l.make) (take l.n l.fn.list.items) l.made.items
