-- Each book keeps the run of its live events, as the headline states.
use Rattle.rd_marks.proofs.Prelude.{◌≡◌, ◌↔◌, ◌⊎◌, ◌-◌, ◌<◌, ◌≤◌, ℕ, refl, sym, subst, length, Option, Some, None, Ok, Err, IsOk, arith, Entry, State, state_of, undo_at, Journal, journal, numbered, first_dependant, and_then, IsRun, unless_depended, event_of_entry, BookState, book_state, session_of, Book}
use Rattle.rd_journal.proofs.Ahead.{is_session}
use Rattle.rd_journal.proofs.Finding.{numbered_in}
use Rattle.rd_journal.proofs.ListLemmas.{nth}
use Rattle.rd_journal.proofs.LoneUndo.{undo_at_found, undo_at_missing}
use Rattle.rd_marks.specs.Headline.{IsRunOfLive}
use Rattle.rd_cell.specs.declared.refusal.Refusal.TheVariants as refusal

-- a lone undo is refused with `Depended n` exactly if n is the dependant that is found
refused_exactly_if_found : {X : Type 0} (x : X) (n : ℕ) (found : Option ℕ) → (and_then (unless_depended found) (λ _. Ok x) ≡ Err (refusal.Depended n)) ↔ (found ≡ Some n)
refused_exactly_if_found x n found = grind arith

done_exactly_if_none : {X : Type 0} (x : X) (found : Option ℕ) → IsOk (and_then (unless_depended found) (λ _. Ok x)) ↔ (found ≡ None)
done_exactly_if_none x found = grind arith

-- a lone undo of the k-th live step is refused with `Depended n` exactly if n is its first
-- dependant
refused : (j : Journal) → IsRun j → (k n : ℕ) → (undo_at (state_of j) k ≡ Err (refusal.Depended n)) ↔ (first_dependant j.live k ≡ Some n)
refused j runs k n = by (numbered j.live k) refl
  where
    by : (o : Option Entry) → numbered j.live k ≡ o → (undo_at (state_of j) k ≡ Err (refusal.Depended n)) ↔ (first_dependant j.live k ≡ Some n)
    by None none = grind (arith, event_of_entry)
    by (Some x) here = rw (undo_at_found j k x runs here) (refused_exactly_if_found _ n (first_dependant j.live k))

-- a lone undo of a live step is done exactly if the step has no dependant
free : (j : Journal) → IsRun j → (k : ℕ) → 1 ≤ k → k ≤ length j.live → IsOk (undo_at (state_of j) k) ↔ (first_dependant j.live k ≡ None)
free j runs k some within =
    let x = nth j.live (k - 1) (omega arith) in
    let here : numbered j.live k ≡ Some x.0 = numbered_in j.live k x.0 some within x.1 in
    rw (undo_at_found j k x.0 runs here) (done_exactly_if_none _ (first_dependant j.live k))

-- a book whose session is the state of a run keeps the run of its live events
pub run_of_live : (b : BookState) (j : Journal) → b.session ≡ state_of j → IsRun j → IsRunOfLive b j
run_of_live b j same runs = record {
  is_run = runs;
  state = same;
  free = subst (λ (s : State). (k : ℕ) → 1 ≤ k → k ≤ length j.live → IsOk (undo_at s k) ↔ (first_dependant j.live k ≡ None)) (sym same) (free j runs);
  refused = subst (λ (s : State). (k n : ℕ) → (undo_at s k ≡ Err (refusal.Depended n)) ↔ (first_dependant j.live k ≡ Some n)) (sym same) (refused j runs);
  missing = subst (λ (s : State). (k : ℕ) → (k ≡ 0) ⊎ (length j.live < k) → undo_at s k ≡ Err (refusal.NoSuchStep (length j.live))) (sym same)
      (λ k none. (undo_at_missing j (length j.live) k refl none).0);
}

-- each book keeps the run of its live events
pub book_runs : {R : ℕ} (b : Book R) → IsRunOfLive (book_state b) (journal (session_of b))
book_runs b = run_of_live (book_state b) (journal (session_of b)) refl (is_session b.session).runs
