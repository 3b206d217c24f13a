-- Undoing one live step alone, on which no later one depends, over whole journals.
use Rattle.rd_journal.proofs.Prelude.{is_some, common_steps, map-append, take-map, drop-map, depends, first_dependant, MOST_STEPS, Entry, position_from, WasStepped, IsTakenOut, Journal, IsRun, IsUndoneAlone, IsRunWithout, unless_depended, undo_at_answer, state_of, undo_at, and_then, events, numbered, without, ◌≡◌, ℕ, ◌+◌, ◌-◌, ◌<◌, ◌≤◌, ◌⊎◌, sym, ◌∙◌, ap, subst, arith, List, ◌∷◌, ◌++◌, length, take, drop, Some, None, Ok, Err, length-append}
use Rattle.rd_depend.proofs.IndexFirst.{scanned-any}
use Rattle.rd_journal.proofs.ListLemmas.{IsNumber, nth, from_it, around_it}
use Rattle.rd_journal.proofs.Calls.{entry_missing, entry_found, event_of_entry}
use Rattle.rd_journal.proofs.Finding.{numbered_in, scan_is}
use Rattle.rd_journal.proofs.Runs.{may_take_out}
use Rattle.rd_cell.specs.declared.refusal.Refusal.TheVariants as refusal

-- Dependence

-- the first dependant of the k-th entry is searched from the next position on
first_behind : (l : List Entry) (k : ℕ) (x : Entry) → IsNumber l k x → first_dependant l k ≡ position_from (depends x) (k + 1) (drop k l)
first_behind l k x at = scan_is x l k (numbered_in l k x at.some at.within at.here)

-- The journal without it

-- the k-th live entry is now in front of the undone ones
pub taken_out_front : (k : ℕ) (old new : Journal) (x : Entry) → IsNumber old.live k x → IsUndoneAlone k old new → new.undone ≡ x ∷ old.undone
taken_out_front k old new x at moved = moved.undone ∙ ap (λ (ys : List Entry). take 1 ys ++ old.undone) (from_it old.live k x at)

-- there are as many entries as before
pub taken_out_few : (k : ℕ) (old new : Journal) (x : Entry) → IsNumber old.live k x → IsUndoneAlone k old new
    → length old.live + length old.undone ≤ MOST_STEPS → length new.live + length new.undone ≤ MOST_STEPS
taken_out_few k old new x at moved few = grind (arith, common_steps, around_it, length-append, taken_out_front)

-- the k-th live step may be undone alone, and each journal that this leaves is a run from the same
-- start
pub record MayUndoAt (old : Journal) (k : ℕ) (x : Entry) : Type 0 where
  pub was : WasStepped old.world x
  pub left : (new : Journal) → new.start ≡ old.start → IsTakenOut old.world new.world x was → IsUndoneAlone k old new → IsRun new

pub may_undo_at : (old : Journal) (k : ℕ) (x : Entry) → IsNumber old.live k x → first_dependant old.live k ≡ None → IsRun old
    → MayUndoAt old k x
may_undo_at old k x at none runs =
    let may = may_take_out old.start old.world (take (k - 1) old.live) (drop k old.live) old.undone x (grind (arith, around_it))
    (sym (scanned-any (depends x) (k + 1) (drop k old.live)) ∙ ap is_some (sym (first_behind old.live k x at) ∙ none)) in
    record {
      was = may.was;
      left = λ new start out moved.
          let same : new ≡ record { start = old.start; world = new.world; live = take (k - 1) old.live ++ drop k old.live; undone = x ∷ old.undone } =
          grind (arith, common_steps, taken_out_front) in
          subst (λ (j : Journal). IsRun j) (sym same) (may.left new.world out);
    }

-- the events of a list without its k-th entry
without-events : (xs : List Entry) (k : ℕ) → events (without xs k) ≡ without (events xs) k
without-events xs k = grind (arith, take-map, drop-map, map-append)

pub undone_run : (k : ℕ) (old new : Journal) → IsUndoneAlone k old new → new.start ≡ old.start → IsRun new → IsRunWithout k old new
undone_run k old new moved start runs = let left = without-events old.live k in grind arith

-- The answers

-- the answer to undoing the k-th live step, if it is there, depends only on its first dependant
pub undo_at_found : (j : Journal) (k : ℕ) (x : Entry) → IsRun j → numbered j.live k ≡ Some x
    → undo_at (state_of j) k ≡ and_then (unless_depended (first_dependant j.live k))
    (λ _. Ok (record { start = j.start; live = without (events j.live) k; undone = x.event ∷ events j.undone }))
undo_at_found j k x runs here = grind (arith, event_of_entry)

undo_at_there : (j : Journal) (k : ℕ) (x : Entry) → IsRun j → IsNumber j.live k x
    → (undo_at (state_of j) k ≡ and_then (unless_depended (first_dependant j.live k))
    (λ _. Ok (record { start = j.start; live = without (events j.live) k; undone = x.event ∷ events j.undone })))
    × (unless_depended (first_dependant j.live k) ≡ undo_at_answer j k)
undo_at_there j k x runs at = grind (arith, entry_found, undo_at_found, numbered_in)

pub undo_at_goes : (k : ℕ) (old new : Journal) → IsRun old → 1 ≤ k → k ≤ length old.live → first_dependant old.live k ≡ None → IsUndoneAlone k old new
    → new.start ≡ old.start → (undo_at (state_of old) k ≡ Ok (state_of new)) × (Ok tt ≡ undo_at_answer old k)
undo_at_goes k old new runs some within free moved start =
    let x = nth old.live (k - 1) (omega arith) in
    let at : IsNumber old.live k x.0 = record { some = some; within = within; here = x.1 } in
    let there = undo_at_there old k x.0 runs at in
    let front = taken_out_front k old new x.0 at moved in
    grind (arith, without-events)

pub undo_at_refused : (k n : ℕ) (j : Journal) → IsRun j → 1 ≤ k → k ≤ length j.live → first_dependant j.live k ≡ Some n
    → (undo_at (state_of j) k ≡ Err (refusal.Depended n)) × (Err (refusal.Depended n) ≡ undo_at_answer j k)
undo_at_refused k n j runs some within found =
    let x = nth j.live (k - 1) (omega arith) in
    let there = undo_at_there j k x.0 runs (record { some = some; within = within; here = x.1 }) in
    (grind arith, grind arith)

-- the answer to undoing the k-th live step, if it is not there
pub undo_at_missing : (j : Journal) (n k : ℕ) → n ≡ length j.live → (k ≡ 0) ⊎ (n < k)
    → (undo_at (state_of j) k ≡ Err (refusal.NoSuchStep n)) × (Err (refusal.NoSuchStep n) ≡ undo_at_answer j k)
undo_at_missing j n k len h = let none = entry_missing j n k len h in (grind (arith, event_of_entry), grind arith)
