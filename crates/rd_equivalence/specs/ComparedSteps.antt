-- What the code keeps while it compares two runs: how far the steps of the first run reached in the
-- second, and which steps of the second are left.
use Rattle.std.specs.Prelude.{◌≡◌, ◌==◌, ℕ, List, ◌∷◌, Option, Vec, map, reverse, unwrap_or, filter}
use Rattle.std.specs.List.{enumerate_from}
use Rattle.std.specs.declared.alloc.Global.{Global}
use Rattle.indexmap.specs.IndexMap.{get}
use Rattle.rd_step.specs.declared.entries.Entry.{Entry}
use Rattle.rd_depend.specs.declared.index.keys.Key.{Key}
use Rattle.rd_equivalence.specs.declared.steps_by_actor.NumberedStep.{NumberedStep}
use Rattle.rd_equivalence.specs.declared.keeping_order.Reached.{Reached}
use Rattle.rd_equivalence.specs.declared.keeping_order.ReachedByKey.{ReachedByKey}
use Rattle.rd_equivalence.specs.declared.steps_by_actor.StepsByActor.{StepsByActor}
use Rattle.rd_depend.specs.Keys.{key_eq}
use Rattle.rd_depend.specs.Tables.{list_at}
use Rattle.rd_equivalence.specs.KeepingOrder.{Numbered, nothing_reached, IsNext, with_step, with_rest}

-- how far the steps reached under the key, given what the map has for it: nothing is reached if the
-- key is missing there
abbrev pub reached_or_nothing : Key → Option Reached → Reached
reached_or_nothing k o = unwrap_or o (nothing_reached k)

-- how far the steps that were added reached under each key
abbrev pub reached_of : ReachedByKey → Key → Reached
reached_of by_key k = reached_or_nothing k (get key_eq by_key.reached k)

-- the numbered steps that this actor made, in their order
abbrev pub by_actor : ℕ → List Numbered → List Numbered
by_actor n ps = filter (λ p. n == p.1.event.actor) ps

-- the steps of this actor in a run, each with its number in the run, from 1
abbrev pub steps_by_actor : List Entry → ℕ → List Numbered
steps_by_actor entries n = by_actor n (enumerate_from 1 entries)

-- the steps in the list of this number, which is an actor's, in the order of the run; none if there
-- is no such list. The list has them in the reverse order
abbrev pub remaining_in : List (Vec NumberedStep Global) → ℕ → List Numbered
remaining_in lists n = reverse (map (λ p. (p.at, p.entry.now)) (list_at lists n))

-- for each actor, its steps that are not yet compared, in the order of the run
abbrev pub remaining_steps : StepsByActor → ℕ → List Numbered
remaining_steps steps = remaining_in steps.steps.items

-- the steps of each actor, with step p in front of those of actor n
abbrev pub with_first : (ℕ → List Numbered) → ℕ → Numbered → ℕ → List Numbered
with_first left n p = with_rest left n (p ∷ left n)

-- the next step of the actor of x in the second run, `step`, is like x and in order there. Adding x
-- leads from the state `s` to `t`. Removing `step` leads from the steps left of each actor, `old`,
-- to `new`, where `rest` is left of this one
pub record IsMatched (x : Entry) (s t : Key → Reached) (old new : ℕ → List Numbered) : Type 0 where
  pub step : Numbered
  pub rest : List Numbered
  pub next : IsNext s x old step rest
  pub reached : t ≡ with_step s x step.0
  pub left : new ≡ with_rest old x.event.actor rest

-- step x has no match in the second run: its actor has no step left there, or the next one is
-- unlike x or out of order
abbrev pub IsUnmatched : Entry → (Key → Reached) → (ℕ → List Numbered) → Type 0
IsUnmatched x s left = (p : Numbered) (rest : List Numbered) → IsNext s x left p rest → ⊥
