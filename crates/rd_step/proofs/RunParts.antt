-- Runs taken apart at their first step or at one in the middle.
use Rattle.rd_step.proofs.Prelude.{◌≡◌, false, refl, ◌∙◌, subst, List, [], ◌∷◌, ◌++◌, Result, Ok, Err, arith, Refusal, World, Event, Entry, Stepped, step, Ran, run, events, or_parts, depends, IsFree, list_any, run_entries, IsRunFrom}

-- a run of at least one event, taken apart into its first step and the run of the others
pub record RanOn (w : World) (e : Event) (es : List Event) (r : Ran) : Type 0 where
  pub one : Stepped
  pub goes : step w e ≡ Ok one
  pub rest : Ran
  pub goes_on : run one.world es ≡ Ok rest
  pub joins : record { world = rest.world; entries = one.entry ∷ rest.entries } ≡ r

-- every run of at least one event can be taken apart so
pub ran_on : (w : World) (e : Event) (es : List Event) (r : Ran) → run w (e ∷ es) ≡ Ok r → RanOn w e es r
ran_on w e es r h = grind arith

-- P holds of a run of at least one event, if it holds of each first step with a run of the others
pub each_run : (w : World) (e : Event) (es : List Event) (P : Ran → Type 0)
    → ((s : Stepped) (rest : Ran) → step w e ≡ Ok s → run s.world es ≡ Ok rest → P (record { world = rest.world; entries = s.entry ∷ rest.entries }))
    → (r : Ran) → run w (e ∷ es) ≡ Ok r → P r
each_run w e es P each r h = let ran = ran_on w e es r h in subst P ran.joins (each ran.one ran.rest ran.goes ran.goes_on)

-- a step, followed by a run from the world after it, is a run
pub run-cons : (w : World) (e : Event) (es : List Event) (s : Stepped) (r : Ran) → step w e ≡ Ok s → run s.world es ≡ Ok r
    → run w (e ∷ es) ≡ Ok (record { world = r.world; entries = s.entry ∷ r.entries })
run-cons w e es s r h k = grind arith

-- if none of a list's entries depends on x, neither its first one does nor any other
pub free_parts : (x y : Entry) (ys : List Entry) → IsFree x (y ∷ ys) → (depends x y ≡ false) × IsFree x ys
free_parts x y ys free = or_parts (depends x y) (list_any (depends x) ys) free

-- running the events of these entries leaves just these entries, and the world `last`
pub record RunsTo (w : World) (xs : List Entry) : Type 0 where
  pub last : World
  pub runs : run w (events xs) ≡ Ok (record { world = last; entries = xs })

runs_to_of : (w : World) (xs : List Entry) (o : Result Ran Refusal) → run w (events xs) ≡ o → run_entries o ≡ Ok xs → RunsTo w xs
runs_to_of w xs (Err refusal) h k = cc
runs_to_of w xs (Ok r) h k =
    let same : r.entries ≡ xs = cc in
    record { last = r.world; runs = h ∙ (λ i. Ok (record { world = r.world; entries = same i })) }

-- entries that their events leave are those of a run with a last world
pub runs_to : (w : World) (xs : List Entry) → IsRunFrom w xs → RunsTo w xs
runs_to w xs h = runs_to_of w xs (run w (events xs)) refl h

-- a run with at least one entry, from s to w, taken apart after its first step
pub record Beginning (s : World) (x : Entry) (xs : List Entry) (w : World) : Type 0 where
  pub after : World
  pub goes : step s x.event ≡ Ok (record { world = after; entry = x })
  pub rest : run after (events xs) ≡ Ok (record { world = w; entries = xs })

-- every run that left at least one entry can be taken apart so
pub beginning : (s : World) (x : Entry) (xs : List Entry) (w : World)
    → run s (events (x ∷ xs)) ≡ Ok (record { world = w; entries = x ∷ xs }) → Beginning s x xs w
beginning s x xs w h = grind arith

-- the first step of a run whose entries are known, but not its last world
pub record FirstStep (s : World) (x : Entry) (xs : List Entry) : Type 0 where
  pub after : World
  pub goes : step s x.event ≡ Ok (record { world = after; entry = x })
  pub rest : IsRunFrom after xs

-- every list of entries that is a run has a first step, unless it is empty
pub first_step : (s : World) (x : Entry) (xs : List Entry) → IsRunFrom s (x ∷ xs) → FirstStep s x xs
first_step s x xs h = grind (arith, runs_to, beginning)

-- a run taken apart at one of its steps
pub record Middle (s : World) (xs : List Entry) (x : Entry) (ys : List Entry) (w : World) : Type 0 where
  pub before : World
  pub ran : run s (events xs) ≡ Ok (record { world = before; entries = xs })
  pub after : World
  pub goes : step before x.event ≡ Ok (record { world = after; entry = x })
  pub rest : run after (events ys) ≡ Ok (record { world = w; entries = ys })

-- every run can be taken apart at one of its steps
pub middle : (s : World) (xs : List Entry) (x : Entry) (ys : List Entry) (w : World)
    → run s (events (xs ++ x ∷ ys)) ≡ Ok (record { world = w; entries = xs ++ x ∷ ys }) → Middle s xs x ys w
middle s [] x ys w h = grind (arith, beginning)
middle s (y ∷ xs) x ys w h =
    let first = beginning s y (xs ++ x ∷ ys) w h in
    let m = middle first.after xs x ys w first.rest in
    grind (arith, run-cons)
