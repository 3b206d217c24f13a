-- What the laws state: going back and forth, undoing steps out of their order and redoing them, and
-- the old record and old content of an entry.
use Rattle.rd_journal.proofs.Prelude.{◌≡◌, ℕ, suc, sym, ◌∙◌, Ok, arith, length-append, length-drop, ◌-◌, ◌≤◌, refl, ap, List, [], ◌∷◌, ◌++◌, length, take, drop, Some, None, slice_get-get_or, Result, subst, get_or, ◌+◌, ◌<◌, append_assoc, drop-drop, drop-take, take-take, take-add, length-take-le, le-ltb, ltb-false, cond-false, take_at, drop_at, take-append-drop, Journal, IsRun, State, state_of, back, forward, length-map, first_dependant, Ran, step, unstep, Entry, IsTakenOut, taken_out, IsMovedLast, IsUndoneAlone, run_of, live_event, undo_at, and_then, Refusal, map-append, World, closure, closure_entries, without_closure, Event, events, IsClosureLast, undone_where_true, roll, take-map, run, run_keeps_well_formed, IsStepAfter, middle, nat_lt}
use Rattle.rd_journal.proofs.Runs.{as_ok, as_ok-same, step_event, is_run-with_step}
use Rattle.rd_journal.proofs.ListLemmas.{IsNumber, nth, from_it, drop_before}
use Rattle.rd_depend.proofs.Elements.{around-element}
use Rattle.rd_journal.proofs.LoneUndo.{may_undo_at, undo_at_goes}
use Rattle.rd_journal.proofs.Calls.{is_live, went_through}
use Rattle.rd_journal.proofs.Walks.{state_forward}
use Rattle.rd_journal.proofs.RolledBack.{closure_last, closure_last-is_run, marked-map, items_where_false-map}
use Rattle.rd_step.proofs.OldWords.{keeps_old_words}

-- going back, and then forward by as many steps, restores the state
pub forward_back : (s t : State) (n : ℕ) → back s n ≡ Ok t → forward t n ≡ Ok s
forward_back s t n h = grind (arith, le-ltb, ltb-false, cond-false, take_at, drop_at, take-append-drop, length-append, length-drop)

-- a walk within the run

back_within : (s : State) (n : ℕ) → n ≤ length s.live
    → back s n ≡ Ok (record { start = s.start; live = take (length s.live - n) s.live; undone = drop (length s.live - n) s.live ++ s.undone })
back_within s n within = cond-false (nat_lt (length s.live) n) _ _ (le-ltb (length s.live) n within)

forward_within : (s : State) (n : ℕ) → n ≤ length s.undone → forward s n ≡ Ok (record { start = s.start; live = s.live ++ take n s.undone; undone = drop n s.undone })
forward_within s n within = cond-false (nat_lt (length s.undone) n) _ _ (le-ltb (length s.undone) n within)

-- what is after the first m elements, cut after one of them
from_one : {X : Type 0} (m : ℕ) (xs : List X) → drop m (take (m + 1) xs) ++ drop (m + 1) xs ≡ drop m xs
from_one m xs = (λ i. drop-take m 1 xs i ++ sym (drop-drop 1 m xs) i) ∙ take-append-drop 1 (drop m xs)

-- going back n + 1 steps is going back n steps, and then one
pub back_more : (s : State) (n : ℕ) → n < length s.live → back s (n + 1) ≡ and_then (back s n) (λ u. back u 1)
back_more s n few =
    let k = length s.live - n in
    let u : State = record { start = s.start; live = take k s.live; undone = drop k s.live ++ s.undone } in
    let live : take (length s.live - (n + 1)) s.live ≡ take (length (take k s.live) - 1) (take k s.live) = grind (arith, length-take-le, take-take) in
    let undone : drop (length s.live - (n + 1)) s.live ++ s.undone ≡ drop (length (take k s.live) - 1) (take k s.live) ++ (drop k s.live ++ s.undone) =
    ap (λ (ys : List Event). ys ++ s.undone) (drop_before s.live (length s.live - (n + 1)) k 1 (omega arith) (omega arith))
    ∙ append_assoc (drop (length (take k s.live) - 1) (take k s.live)) (drop k s.live) s.undone in
    back_within s (n + 1) (omega arith)
    ∙ (λ i. Ok (record { start = s.start; live = live i; undone = undone i }))
    ∙ sym (ap (λ (r : Result State Refusal). and_then r (λ v. back v 1)) (back_within s n (omega arith)) ∙ back_within u 1 (omega (arith, length-take-le k s.live (omega arith))))

-- going forward n + 1 steps is going forward n steps, and then one
pub forward_more : (s : State) (n : ℕ) → n < length s.undone → forward s (n + 1) ≡ and_then (forward s n) (λ u. forward u 1)
forward_more s n few =
    let xs = s.undone in
    let u : State = record { start = s.start; live = s.live ++ take n xs; undone = drop n xs } in
    let live : s.live ++ take (n + 1) xs ≡ (s.live ++ take n xs) ++ take 1 (drop n xs) =
    ap (λ (ys : List Event). s.live ++ ys) (take-add n 1 xs) ∙ sym (append_assoc s.live (take n xs) (take 1 (drop n xs))) in
    forward_within s (n + 1) (omega arith)
    ∙ (λ i. Ok (record { start = s.start; live = live i; undone = sym (drop-drop 1 n xs) i }))
    ∙ sym (ap (λ (r : Result State Refusal). and_then r (λ v. forward v 1)) (forward_within s n (omega arith)) ∙ forward_within u 1 (omega (arith, length-drop n xs)))

-- a state has one journal
pub one_journal : (i j : Journal) → IsRun i → IsRun j → state_of i ≡ state_of j → i ≡ j
one_journal i j ri rj same = grind arith

-- going back, and then forward by as many steps, restores the journal
pub forward_back_journal : (i j k : Journal) (n : ℕ) → IsRun i → IsRun k → back (state_of i) n ≡ Ok (state_of j)
    → forward (state_of j) n ≡ Ok (state_of k) → k ≡ i
forward_back_journal i j k n ri rk went goes =
    let both : as_ok (state_of k) ≡ Ok (state_of i) = sym goes ∙ forward_back (state_of i) (state_of j) n went in
    one_journal k i rk ri (as_ok-same (state_of k) (state_of i) both)

-- Calls that were not refused

-- what follows if a lone undo was not refused
went_out : (s t : State) (r : Ran) (n : ℕ) → run_of s ≡ Ok r → undo_at s n ≡ Ok t → (1 ≤ n) × (n ≤ length s.live) × (first_dependant r.entries n ≡ None)
went_out s t r n ran h =
    let live = went_through (live_event s n) _ t h in
    let of_live = is_live s n live.0 live.1 in
    grind (arith, ran)

-- Redone last

-- the journal where the n-th live step, which is x, was undone alone and redone
abbrev pub again_journal : Journal → ℕ → Entry → Journal
again_journal old n x = record { start = old.start; world = old.world; live = (take (n - 1) old.live ++ drop n old.live) ++ x ∷ []; undone = old.undone }

again : (old : Journal) (n : ℕ) (x : Entry) → IsNumber old.live n x → first_dependant old.live n ≡ None → IsRun old
    → IsRun (again_journal old n x) × (and_then (undo_at (state_of old) n) (λ s. forward s 1) ≡ Ok (state_of (again_journal old n x)))
again old n x at none runs =
    let may = may_undo_at old n x at none runs in
    let v = unstep old.world x in
    let out : IsTakenOut old.world v x may.was = taken_out old.world x may.was in
    let xs = take (n - 1) old.live ++ drop n old.live in
    let left : Journal = record { start = old.start; world = v; live = xs; undone = x ∷ old.undone } in
    let moved : IsUndoneAlone n old left = record { live = refl; undone = sym (ap (λ (ys : List Entry). take 1 ys ++ old.undone) (from_it old.live n x at)) } in
    let is = may.left left refl out moved in
    let its : x.event ≡ may.was.event = step_event v may.was.event (record { world = old.world; entry = x }) out.again in
    let goes : step v x.event ≡ Ok (record { world = old.world; entry = x }) = ap (step v) its ∙ out.again in
    let back_on = is_run-with_step old.start v old.world xs (x ∷ old.undone) old.undone x x.event is goes runs.undone_run_on in (
      back_on,
      ap (λ (r : Result State Refusal). and_then r (λ s. forward s 1)) (undo_at_goes n old left runs at.some at.within none moved refl).0
          ∙ state_forward 1 left (again_journal old n x) (omega arith) refl (record { live = refl; undone = refl }),
    )

pub redone_last : (i j k : Journal) (n : ℕ) → IsRun i → IsRun k → undo_at (state_of i) n ≡ Ok (state_of j)
    → forward (state_of j) 1 ≡ Ok (state_of k) → IsMovedLast n i k
redone_last i j k n ri rk undone redone =
    let went = went_out (state_of i) (state_of j) (record { world = i.world; entries = i.live }) n ri.live_ran undone in
    let within : n ≤ length i.live = omega (arith, went.1, length-map i.live (λ (x : Entry). x.event)) in
    let found = nth i.live (n - 1) (omega arith) in
    let at : IsNumber i.live n found.0 = record { some = went.0; within = within; here = found.1 } in
    let is = again i n found.0 at went.2 ri in
    let one : k ≡ again_journal i n found.0 = one_journal k (again_journal i n found.0) rk is.0 (grind arith) in
    grind (arith, from_it)

-- redoing as many steps as a block has puts the block last
forward_all : (w : World) (n : ℕ) (xs ys zs : List Event) → n ≡ length ys
    → forward (record { start = w; live = xs; undone = ys ++ zs }) n ≡ Ok (record { start = w; live = xs ++ ys; undone = zs })
forward_all w n xs ys zs len = grind (arith, le-ltb, cond-false, length-append, take_at, drop_at)

-- what follows if a rollback was not refused
rolled : (s t : State) (r : Ran) (n : ℕ) → run_of s ≡ Ok r → roll s n ≡ Ok t → (1 ≤ n) × (n ≤ length s.live) × (t ≡ undone_where_true s (closure r.entries n))
rolled s t r n ran k = grind (arith, went_through, is_live)

pub closure_redone : (i j k : Journal) (n : ℕ) → IsRun i → IsRun k → roll (state_of i) n ≡ Ok (state_of j)
    → forward (state_of j) (length (closure_entries i.live n)) ≡ Ok (state_of k) → IsClosureLast n i k
closure_redone i j k n ri rk back on =
    let went = rolled (state_of i) (state_of j) (record { world = i.world; entries = i.live }) n ri.live_ran back in
    let its = λ (x : Entry). x.event in
    let within : n ≤ length i.live = omega (arith, went.1, length-map i.live its) in
    let re = closure_last-is_run i n went.0 within ri in
    let xs = without_closure i.live n in
    let ys = closure_entries i.live n in
    let left : state_of j ≡ record { start = i.start; live = events xs; undone = events ys ++ events i.undone } =
    grind (arith, went.2, items_where_false-map, marked-map) in
    let there : state_of k ≡ record { start = i.start; live = events xs ++ events ys; undone = events i.undone } =
    as_ok-same _ _ (sym on ∙ ap (λ (s : State). forward s (length ys)) left ∙ forward_all i.start (length ys) (events xs) (events ys) (events i.undone) (sym (length-map ys its))) in
    let same : state_of k ≡ state_of (closure_last i n) =
    there ∙ (λ t. record { start = i.start; live = sym (map-append its xs ys) t; undone = events i.undone }) in
    let one : k ≡ closure_last i n = one_journal k (closure_last i n) rk re same in
    grind arith

-- the entry at position k of the live ones is that of the step after the first k
pub step_after : (j : Journal) (k : ℕ) (x : Entry) → IsRun j → k < length j.live → x ≡ get_or j.live k x → IsStepAfter k j x
step_after j k x runs low at =
    let xs = take k j.live in
    let ys = drop (suc k) j.live in
    let cut : j.live ≡ xs ++ x ∷ ys = around-element j.live k x (slice_get-get_or j.live k x low ∙ ap Some (sym at)) in
    let m = middle j.start xs x ys j.world (subst (λ (zs : List Entry). run j.start (events zs) ≡ Ok (record { world = j.world; entries = zs })) cut runs.live_ran) in
    let formed = run_keeps_well_formed j.start (events xs) (record { world = m.before; entries = xs }) runs.well_formed m.ran in
    let words = keeps_old_words m.before x.event (record { world = m.after; entry = x }) formed m.goes in
    grind (arith, take-map)
