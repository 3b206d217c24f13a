-- The run of a list of events: one step after another.
use Rattle.std.specs.Prelude.{◌≡◌, List, [], ◌∷◌, map, Result, Ok}
use Rattle.rd_ring.specs.Prelude.{Refusal, and_then, result_map}
use Rattle.rd_step.specs.World.{World}
use Rattle.rd_step.specs.declared.entries.Event.{Event}
use Rattle.rd_step.specs.declared.entries.Entry.{Entry}
use Rattle.rd_step.specs.Step.{step}

-- the last world of a run, and the entries of its steps in their order
pub record Ran : Type 0 where
  pub world : World
  pub entries : List Entry

-- the run that makes the step of this entry first, and then goes on as r
abbrev pub preceded_by : Entry → Ran → Ran
preceded_by x r = record { world = r.world; entries = x ∷ r.entries }

-- the run of a list of events from this world, one step after another; the first refusal if a step
-- is refused
abbrev pub run : World → List Event → Result Ran Refusal
run w [] = Ok (record { world = w; entries = [] })
run w (e ∷ es) = and_then (step w e) (λ s. result_map (preceded_by s.entry) (run s.world es))

-- the events of these entries, in their order
abbrev pub events : List Entry → List Event
events entries = map (λ x. x.event) entries

-- the entries that a run left, or its refusal
abbrev pub run_entries : Result Ran Refusal → Result (List Entry) Refusal
run_entries r = result_map (λ ran. ran.entries) r

-- running the events of these entries from this world leaves just these entries
abbrev pub IsRunFrom : World → List Entry → Type 0
IsRunFrom w entries = run_entries (run w (events entries)) ≡ Ok entries
