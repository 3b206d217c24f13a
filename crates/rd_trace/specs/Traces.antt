-- Rings and runs: which rings a trace may have, and which event is the first to be refused.
use Rattle.std.specs.Prelude.{◌≡◌, ◌⊎◌, ◌+◌, ℕ, List, [], ◌++◌, ◌∷◌, length, Option, None, option_map}
use Rattle.std.specs.Option.{option_or}
use Rattle.std.specs.Result.{result_err}
use Rattle.rd_step.specs.Prelude.{World, Refusal}
use Rattle.rd_step.specs.declared.entries.Event.{Event}
use Rattle.rd_journal.specs.State.{State, apply}

-- a trace may have rings of n cells: n is 2, 4 or 8
abbrev pub IsTraceRing : ℕ → Type 0
IsTraceRing n = (n ≡ 2) ⊎ ((n ≡ 4) ⊎ (n ≡ 8))

-- the session from a start with these live events and none undone
abbrev pub session_at : World → List Event → State
session_at start live = record { start = start; live = live; undone = [] }

-- the number and the cause of the first of these events that is refused, after the events `before`
-- happened from this start; the number, from 1, counts those too. None if no event is refused
abbrev pub first_refused : World → List Event → List Event → Option (ℕ × Refusal)
first_refused start before [] = None
first_refused start before (e ∷ es) =
    option_or (option_map (λ cause. (length before + 1, cause)) (result_err (apply (session_at start before) e))) (first_refused start (before ++ e ∷ []) es)
