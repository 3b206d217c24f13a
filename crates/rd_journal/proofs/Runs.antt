-- Runs and their entries: two runs joined, the first and the last step of a run, and journals that
-- gain or lose a step.
use Rattle.rd_journal.proofs.Prelude.{runs_to, run_joined, ◌≡◌, refl, sym, ◌∙◌, ap, subst, List, [], ◌∷◌, ◌++◌, Result, Ok, arith, ℕ, ◌-◌, ◌<◌, ◌≤◌, ◌⊎◌, length, get_or, slice_get, option_map, Some, None, map-append, Refusal, World, Stepped, step, unstep, run, IsFree, IsWellFormed, Event, Entry, WasStepped, IsTakenOut, step_stages, run-cons, run_keeps_well_formed, middle, Journal, events, IsRun, IsRunFrom, append-nil, taken_out, slice_get-map, slice_get_past, slice_get-get_or, LeadsTo, numbered, run_entries}

-- a result that is no refusal
abbrev pub as_ok : {X : Type 0} → X → Result X Refusal
as_ok x = Ok x

-- equal results have equal values
pub as_ok-same : {X : Type 0} (x y : X) → as_ok x ≡ Ok y → x ≡ y
as_ok-same x y h = cc

-- a step's entry names its event
pub step_event : (w : World) (e : Event) (s : Stepped) → step w e ≡ Ok s → s.entry.event ≡ e
step_event w e s h = let t = step_stages w e s h in ap (λ (x : Stepped). x.entry.event) (sym t.ends)

-- a journal is a run if its live entries are those of a run from its start to its world, and its
-- undone entries run on
pub runs_since : (s : World) (j : Journal) → j.start ≡ s → IsWellFormed s → run s (events j.live) ≡ Ok (record { world = j.world; entries = j.live })
    → IsRunFrom j.world j.undone → IsRun j
runs_since s j start formed ran on = grind arith

-- two runs, the second from the last world of the first, are one run
pub runs_joined : (s w v : World) (xs ys : List Entry) → run s (events xs) ≡ Ok (record { world = w; entries = xs })
    → run w (events ys) ≡ Ok (record { world = v; entries = ys }) → run s (events (xs ++ ys)) ≡ Ok (record { world = v; entries = xs ++ ys })
runs_joined s w v xs ys h k =
    ap (run s) (map-append (λ (y : Entry). y.event) xs ys)
    ∙ run_joined s (events xs) (events ys) (record { world = w; entries = xs }) (record { world = v; entries = ys }) h k

-- a run with one more step is a run
pub ran_more : (s w v : World) (xs : List Entry) (x : Entry) → run s (events xs) ≡ Ok (record { world = w; entries = xs })
    → step w x.event ≡ Ok (record { world = v; entry = x }) → run s (events (xs ++ x ∷ [])) ≡ Ok (record { world = v; entries = xs ++ x ∷ [] })
ran_more s w v xs x ran goes =
    runs_joined s w v xs (x ∷ []) ran (run-cons w x.event [] (record { world = v; entry = x }) (record { world = v; entries = [] }) goes refl)

-- a journal's world is well-formed
pub now_formed : (j : Journal) → IsRun j → IsWellFormed j.world
now_formed j runs = run_keeps_well_formed j.start (events j.live) (record { world = j.world; entries = j.live }) runs.well_formed runs.live_ran

-- a step from a journal's world gives a journal from the same start, with the step's entry last and
-- any entries undone that run on
pub is_run-with_step : (s w v : World) (xs zs ys : List Entry) (x : Entry) (e : Event) → IsRun (record { start = s; world = w; live = xs; undone = zs })
    → step w e ≡ Ok (record { world = v; entry = x }) → IsRunFrom v ys → IsRun (record { start = s; world = v; live = xs ++ x ∷ []; undone = ys })
is_run-with_step s w v xs zs ys x e runs h rest =
    let its : x.event ≡ e = step_event w e (record { world = v; entry = x }) h in
    record { well_formed = runs.well_formed; live_ran = ran_more s w v xs x runs.live_ran (ap (step w) its ∙ h); undone_run_on = rest }

-- if a live step on which no later one depends is taken out of a run, what is left is a run from
-- the same start, with the step's entry in front of the undone ones
pub record MayTakeOut (s w : World) (xs ys zs : List Entry) (x : Entry) : Type 0 where
  pub was : WasStepped w x
  pub left : (v : World) → IsTakenOut w v x was → IsRun (record { start = s; world = v; live = xs ++ ys; undone = x ∷ zs })

pub may_take_out : (s w : World) (xs ys zs : List Entry) (x : Entry) → IsRun (record { start = s; world = w; live = xs ++ x ∷ ys; undone = zs })
    → IsFree x ys → MayTakeOut s w xs ys zs x
may_take_out s w xs ys zs x runs free =
    let m = middle s xs x ys w runs.live_ran in
    let was : WasStepped w x = record {
      start = m.before;
      well_formed = run_keeps_well_formed s (events xs) (record { world = m.before; entries = xs }) runs.well_formed m.ran;
      event = x.event;
      stepped = record { world = m.after; entry = x };
      goes = m.goes;
      its_entry = refl;
      later = events ys;
      ran = record { world = w; entries = ys };
      went_on = m.rest;
      here = refl;
      free = free;
    } in
    let on = runs_to w zs runs.undone_run_on in
    record {
      was = was;
      left = λ v out.
          record {
            well_formed = runs.well_formed;
            live_ran = runs_joined s m.before v xs ys m.ran out.rest;
            undone_run_on = ap run_entries (run-cons v x.event (events zs) (record { world = w; entry = x }) (record { world = on.last; entries = zs }) out.again on.runs);
          };
    }

-- the last of the steps that lead to a world may be undone, and the others then lead to what
-- undoing leaves
pub record MayStepBack (start w : World) (xs : List Entry) (x : Entry) : Type 0 where
  pub was : WasStepped w x
  pub left : LeadsTo start (unstep w x) xs

pub may_step_back : (start w : World) (xs : List Entry) (x : Entry) → LeadsTo start w (xs ++ x ∷ []) → MayStepBack start w xs x
may_step_back start w xs x leads =
    let v = unstep w x in
    let may = may_take_out start w xs [] [] x (record { well_formed = leads.well_formed; live_ran = leads.ran; undone_run_on = refl }) refl in
    let left = may.left v (taken_out w x may.was) in
    grind (arith, append-nil)

-- the live steps lead from the start to the world
pub live_lead : (j : Journal) (steps : List Entry) → IsRun j → steps ≡ j.live → LeadsTo j.start j.world steps
live_lead j steps runs all = subst (λ (xs : List Entry). LeadsTo j.start j.world xs) (sym all) (record { well_formed = runs.well_formed; ran = runs.live_ran })

-- no steps lead from a world only to itself
pub led_nowhere : (start w : World) → LeadsTo start w [] → w ≡ start
led_nowhere start w leads = grind arith

-- a step that was just made may be undone, and undoing it restores the world before it
pub record WasJustStepped (w v : World) (x : Entry) : Type 0 where
  pub was : WasStepped v x
  pub back : unstep v x ≡ w

pub just_stepped : (w v : World) (e : Event) (x : Entry) → IsWellFormed w → step w e ≡ Ok (record { world = v; entry = x }) → WasJustStepped w v x
just_stepped w v e x formed goes =
    let its = step_event w e (record { world = v; entry = x }) goes in
    let may = may_step_back w v [] x (record { well_formed = formed; ran = ran_more w w v [] x refl (ap (step w) its ∙ goes) }) in
    record { was = may.was; back = led_nowhere w (unstep v x) may.left }

-- The event of an undone step

-- no undone event has a number that is 0 or beyond the last
pub event_missing : (xs : List Entry) (i : ℕ) → (i ≡ 0) ⊎ (length xs < i) → None ≡ numbered (events xs) i
event_missing xs i h = grind (arith, slice_get-map, option_map, slice_get_past)

-- the undone event of a number is the event of the undone entry of that number
pub event_found : (xs : List Entry) (i : ℕ) (x : Entry) → 1 ≤ i → i ≤ length xs → x ≡ get_or xs (i - 1) x → Some x.event ≡ numbered (events xs) i
event_found xs i x some within here = grind (arith, slice_get, slice_get-get_or, slice_get-map, option_map)
