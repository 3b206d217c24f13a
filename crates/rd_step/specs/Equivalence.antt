-- Causal equivalence of two lists of events: the lists are one up to the order of independent steps
-- (Mazurkiewicz traces; for steps that are undone, Danos and Krivine 2004).
use Rattle.std.specs.Prelude.{◌≡◌, List, [], ◌∷◌, ◌++◌, IsPermutation, Ok}
use Rattle.rd_step.specs.World.{World}
use Rattle.rd_step.specs.declared.entries.Event.{Event}
use Rattle.rd_step.specs.Step.{Stepped, step}
use Rattle.rd_step.specs.Run.{Ran, run}
use Rattle.rd_step.specs.Dependence.{IsFree}

-- e is independent of the events before it: they run from w, e steps after them, and e's entry
-- depends on none of their entries
pub record IsIndependentOf (w : World) (e : Event) (earlier : List Event) : Type 0 where
  pub ran : Ran
  pub runs : run w earlier ≡ Ok ran
  pub stepped : Stepped
  pub goes : step ran.world e ≡ Ok stepped
  pub free : IsFree stepped.entry ran.entries

-- the list may begin with e: e steps from w, and it is in the list, at a position where its entry
-- depends on no earlier one. `Rest` holds of the world after e and the list without e
pub record MayBeginWith (w : World) (e : Event) (events : List Event) (Rest : World → List Event → Type 0) : Type 0 where
  pub earlier : List Event
  pub later : List Event
  pub stands : events ≡ earlier ++ e ∷ later
  pub independent : IsIndependentOf w e earlier
  pub stepped : Stepped
  pub goes : step w e ≡ Ok stepped
  pub rest : Rest stepped.world (earlier ++ later)

-- two lists of events are causally equivalent in w: both are empty, or the second may begin with
-- the first event of the first, and the lists without this event are equivalent in the world after
-- it
abbrev pub IsEquivalent : World → List Event → List Event → Type 0
IsEquivalent w [] fs = fs ≡ []
IsEquivalent w (e ∷ es) fs = MayBeginWith w e fs (λ v rest. IsEquivalent v es rest)

-- two runs reach the same world, and have the same entries in some order
pub record ReachesTheSame (r q : Ran) : Type 0 where
  pub same_world : q.world ≡ r.world
  pub same_entries : IsPermutation r.entries q.entries
