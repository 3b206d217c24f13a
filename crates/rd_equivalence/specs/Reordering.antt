-- Lists of events that come from one another by swapping neighbours.
use Rattle.std.specs.Prelude.{◌≡◌, false, List, ◌∷◌, ◌++◌, Ok}
use Rattle.rd_step.specs.Prelude.{World, Ran, Stepped, run, step, depends}
use Rattle.rd_step.specs.declared.entries.Event.{Event}

-- the second list comes from the first by swapping neighbours, one pair after another; the two do
-- not depend on each other in the run from w of the list in which they are swapped. So both lists
-- are one Mazurkiewicz trace
pub data IsReordered (w : World) : List Event → List Event → Type 0 where
  unchanged : (es : List Event) → IsReordered w es es
  swapped : (before : List Event) (e f : Event) (later fs : List Event) (b : Ran) (s u : Stepped) → run w before ≡ Ok b → step b.world e ≡ Ok s
      → step s.world f ≡ Ok u → depends s.entry u.entry ≡ false → IsReordered w (before ++ f ∷ e ∷ later) fs
      → IsReordered w (before ++ e ∷ f ∷ later) fs
