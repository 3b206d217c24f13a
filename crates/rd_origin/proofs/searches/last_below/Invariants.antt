use Rattle.rd_origin.proofs.Prelude.{◌≡◌, ◌-◌, Bool, take, Entry, last_position}
use Rattle.std.specs.Fn.{FnReturnsAt}
use Rattle.rd_origin.proofs.searches.last_below.Given as goal

abbrev pub invariant-loop-number : goal.invariant-loop-number
invariant-loop-number g l =
    (passes : Entry → Bool) → ((x : Entry) (passed : Bool) → FnReturnsAt g.F.Fn l.test x passed → passed ≡ passes x)
    → last_position passes (take (l.below - 1) l.steps) ≡ last_position passes (take (l.number - 1) l.steps)
