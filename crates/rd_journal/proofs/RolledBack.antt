-- Rolling back a live step with all that depends on it, over whole journals.
use Rattle.rd_journal.proofs.Prelude.{◌≡◌, ℕ, zero, suc, ◌+◌, ◌-◌, ◌≤◌, Bool, refl, sym, ◌∙◌, ap, arith, List, [], ◌∷◌, ◌++◌, length, take, drop, Some, None, slice_get-get_or, ◌<◌, ◌⊎◌, subst, Ok, Err, depends, first_dependant, closure_entries, without_closure, items_where_true, items_where_false, closure_from, position_from, Entry, Journal, IsUndoneAlone, IsRolledBack, append_assoc, map-append, World, run, run-cons, events, IsRun, IsRunWithoutClosure, roll_answer, IsSession, state_of, roll, middle}
use Rattle.rd_journal.proofs.Gathering.{cut_at, gathered_run}
use Rattle.rd_journal.proofs.Finding.{numbered_in, scan_is}
use Rattle.rd_journal.proofs.Runs.{runs_joined}
use Rattle.rd_journal.proofs.ListLemmas.{nth, drop_one_less}
use Rattle.rd_depend.proofs.Elements.{around-element}
use Rattle.rd_journal.proofs.Calls.{entry_missing, entry_found, event_of_entry}
use Rattle.rd_cell.specs.declared.refusal.Refusal.TheVariants as refusal

marked_none : (x : Entry) (n : ℕ) (ys : List Entry) → position_from (depends x) n ys ≡ None → items_where_true (closure_from (x ∷ []) ys) ys ≡ []
marked_none x n [] h = refl
marked_none x n (y ∷ ys) h = grind (arith, marked_none x (n + 1) ys)

unmarked_all : (x : Entry) (n : ℕ) (ys : List Entry) → position_from (depends x) n ys ≡ None → items_where_false (closure_from (x ∷ []) ys) ys ≡ ys
unmarked_all x n [] h = refl
unmarked_all x n (y ∷ ys) h = grind (arith, unmarked_all x (n + 1) ys)

-- a step on which no later one depends is rolled back if it is undone alone
pub alone_rolled : (k : ℕ) (old new : Journal) → 1 ≤ k → k ≤ length old.live → first_dependant old.live k ≡ None → IsUndoneAlone k old new → IsRolledBack k old new
alone_rolled zero old new some within free out = absurd (omega arith)
alone_rolled (suc i) old new some within free out =
    let l = old.live in
    let x = nth l i (omega arith) in
    let c = cut_at l i x.0 (omega arith) x.1 in
    let rest = drop (suc i) l in
    grind (arith, scan_is, numbered_in, unmarked_all, marked_none, drop_one_less)

-- The closure gathered last

-- the journal with the closure of k after the other live entries
abbrev pub closure_last : Journal → ℕ → Journal
closure_last j k = record { start = j.start; world = j.world; live = without_closure j.live k ++ closure_entries j.live k; undone = j.undone }

reordered_run : (s w : World) (l : List Entry) (i : ℕ) → i < length l → run s (events l) ≡ Ok (record { world = w; entries = l })
    → let zs = without_closure l (suc i) ++ closure_entries l (suc i) in run s (events zs) ≡ Ok (record { world = w; entries = zs })
reordered_run s w l i low h =
    let found = nth l i low in
    let x = found.0 in
    let c = cut_at l i x low found.1 in
    let xs = take i l in
    let ys = drop (suc i) l in
    let around : l ≡ xs ++ x ∷ ys = around-element l i x (slice_get-get_or l i x low ∙ ap Some (sym found.1)) in
    let m = middle s xs x ys w (subst (λ (zs : List Entry). run s (events zs) ≡ Ok (record { world = w; entries = zs })) around h) in
    let from = run-cons m.before x.event (events ys) (record { world = m.after; entry = x }) (record { world = w; entries = ys }) m.goes m.rest in
    let ms = closure_from (x ∷ []) ys in
    let same : xs ++ (items_where_false ms ys ++ x ∷ items_where_true ms ys) ≡ without_closure l (suc i) ++ closure_entries l (suc i) =
    sym (append_assoc xs (items_where_false ms ys) (x ∷ items_where_true ms ys)) ∙ (λ t. sym c.outside t ++ sym c.inside t) in
    subst (λ (qs : List Entry). run s (events qs) ≡ Ok (record { world = w; entries = qs })) same
    (runs_joined s m.before w xs (items_where_false ms ys ++ x ∷ items_where_true ms ys) m.ran (gathered_run m.before w (x ∷ []) ys from))

-- the journal with the closure gathered last is a run from the same start
pub closure_last-is_run : (j : Journal) (k : ℕ) → 1 ≤ k → k ≤ length j.live → IsRun j → IsRun (closure_last j k)
closure_last-is_run j zero some within runs = absurd (omega arith)
closure_last-is_run j (suc i) some within runs =
    record {
      well_formed = runs.well_formed;
      live_ran = reordered_run j.start j.world j.live i (omega arith) runs.live_ran;
      undone_run_on = runs.undone_run_on;
    }

-- The session with the closure gathered last

-- the closure was gathered behind the other live entries, and all else is as it was
pub record IsGatheredLast (k : ℕ) (old new : Journal) : Type 0 where
  pub start : new.start ≡ old.start
  pub world : new.world ≡ old.world
  pub live : new.live ≡ without_closure old.live k ++ closure_entries old.live k
  pub undone : new.undone ≡ old.undone
  pub len : length new.live ≡ length old.live

pub gathered_session : (k : ℕ) (old new : Journal) (room : ℕ → ℕ) → IsSession old room → 1 ≤ k → k ≤ length old.live → IsGatheredLast k old new
    → IsSession new room
gathered_session k old new room session some within g = grind (arith, closure_last-is_run)

-- The state

pub marked-map : (bs : List Bool) (xs : List Entry) → items_where_true bs (events xs) ≡ events (items_where_true bs xs)
marked-map (b ∷ bs) (x ∷ xs) = grind (arith, marked-map bs xs)
marked-map bs xs = grind arith

pub items_where_false-map : (bs : List Bool) (xs : List Entry) → items_where_false bs (events xs) ≡ events (items_where_false bs xs)
items_where_false-map (b ∷ bs) (x ∷ xs) = grind (arith, items_where_false-map bs xs)
items_where_false-map bs xs = grind arith

pub rolled_run : (k : ℕ) (old new : Journal) → IsRolledBack k old new → new.start ≡ old.start → IsRun new → IsRunWithoutClosure k old new
rolled_run k old new is start runs = grind (arith, items_where_false-map)

-- The answers

pub roll_goes : (k : ℕ) (old new : Journal) → IsRun old → 1 ≤ k → k ≤ length old.live → IsRolledBack k old new → new.start ≡ old.start
    → (roll (state_of old) k ≡ Ok (state_of new)) × (Ok tt ≡ roll_answer old k)
roll_goes k old new runs some within is start =
    let x = nth old.live (k - 1) (omega arith) in
    let found = entry_found old k x.0 some within x.1 in
    (grind (arith, event_of_entry, items_where_false-map, map-append, marked-map), grind arith)

-- the answer to rolling back a step, if it is not there
pub roll_missing : (j : Journal) (n k : ℕ) → n ≡ length j.live → (k ≡ 0) ⊎ (n < k)
    → (roll (state_of j) k ≡ Err (refusal.NoSuchStep n)) × (Err (refusal.NoSuchStep n) ≡ roll_answer j k)
roll_missing j n k len h = let none = entry_missing j n k len h in (grind (arith, event_of_entry), grind arith)
