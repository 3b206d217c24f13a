-- No event is refused memory by definition, and no session refuses it the event of its first undone
-- step.
use Rattle.rd_cell.specs.Operations.{effect}
use Rattle.rd_cell.specs.declared.refusal.Refusal.TheVariants as refusal
use Rattle.rd_step.specs.Prelude.{Content, Operation, Actor, Act, need, Access, perform, Contents, Ran, run}
use Rattle.rd_depend.proofs.IndexPositions.{count_by-cons}
use Rattle.rd_depend.specs.Index.{spare}
use Rattle.rd_journal.proofs.Prelude.{◌≡◌, ◌≢◌, ◌≤◌, ◌+◌, ℕ, Bool, inl, inr, sym, ◌∙◌, ap, subst, refl, arith, List, [], ◌∷◌, ◌++◌, drop, take-append-drop, length, Result, Ok, Err, IsOk, Refusal, World, Stepped, step, first_step, Event, Entry, apply, journal, state, IsRunFrom, AsksForMemory, MayRefuse, is_listed_for, count_by}
use Rattle.rd_journal.proofs.Ahead.{is_session}
use Rattle.rd_journal.proofs.Calls.{applies}
use Rattle.rd_journal.proofs.RoomLemmas.{redo_room}
use Rattle.rd_journal.specs.Sessions.{ahead, room, capacity, index}
use Rattle.rd_journal.specs.declared.sessions.Session.{Session}
use Rattle.rd_journal.specs.State.{State}

-- No step is refused memory by definition: no operation is, no row of the table, no access

effect_refused : (op : Operation) (c : Content) → effect op c ≢ Err refusal.NoMemory
effect_refused op c h = grind arith

need_refused : (R : ℕ) (a : Actor) (act : Act) → need R a act ≢ Err refusal.NoMemory
need_refused R a act h = grind arith

perform_refused : (R actor : ℕ) (at : Contents) (x : Access) → perform R actor at x ≢ Err refusal.NoMemory
perform_refused R actor at x h = grind (arith, effect_refused)

-- nor is a step, or a run
step_refused : (w : World) (e : Event) → step w e ≢ Err refusal.NoMemory
step_refused w e h = grind (arith, need_refused, perform_refused)

run_refused : (w : World) (es : List Event) → run w es ≢ Err refusal.NoMemory
run_refused w [] h = grind arith
run_refused w (e ∷ es) h = by (step w e) refl (λ s. run_refused s.world es)
  where
    by : (r : Result Stepped Refusal) → step w e ≡ r → ((s : Stepped) → run s.world es ≢ Err refusal.NoMemory) → ⊥
    by (Ok s) goes rest = let none = rest s in grind arith
    by (Err cause) refused rest = let none = step_refused w e in grind arith

-- no event is refused memory by definition
pub apply_refused : (s : State) (e : Event) → apply s e ≢ Err refusal.NoMemory
apply_refused s e h = by (run s.start s.live) refl
  where
    by : (r : Result Ran Refusal) → run s.start s.live ≡ r → ⊥
    by (Ok ran) goes = let none = step_refused ran.world e in grind arith
    by (Err cause) refused = let none = run_refused s.start s.live in grind arith

-- The first undone step

-- its event is one that the state doesn't refuse
pub undone_goes : {R : ℕ} (s : Session R) (x : Entry) (rest : List Entry) → (journal s).undone ≡ x ∷ rest → IsOk (apply (state s) x.event)
undone_goes s x rest front =
    let session = is_session s in
    let first = first_step (journal s).world x rest (subst (IsRunFrom (journal s).world) front session.runs.undone_run_on) in
    applies (journal s) x.event session.runs (omega (arith, session.few, ap length front)) (subst IsOk (sym first.goes) refl)

-- one step leaves one entry
same_entry : (r : Result Stepped Refusal) (after : Stepped) (w : World) (x : Entry) → r ≡ Ok after → r ≡ Ok (record { world = w; entry = x }) → after.entry ≡ x
same_entry r after w x goes same = grind arith

-- an entry has the room that one like it leaves
fits_again : (test : Entry → Bool) (n : ℕ) (y x : Entry) (ahead rest : List Entry) → y ≡ x → ahead ≡ x ∷ rest
    → count_by test (y ∷ []) ≤ n + count_by test ahead
fits_again test n y x ahead rest same front = rw (same, front) (omega (arith, count_by-cons test x rest, count_by-cons test x []))

-- its event needs no memory: the undone step left its room
pub undone_asks_for_none : {R : ℕ} (s : Session R) (x : Entry) (rest : List Entry) → (journal s).undone ≡ x ∷ rest
    → AsksForMemory (journal s) (ahead s) (capacity s) (room s) (index s) x.event → ⊥
undone_asks_for_none s x rest front asks =
    let session = is_session s in
    let first = first_step (journal s).world x rest (subst (IsRunFrom (journal s).world) front session.runs.undone_run_on) in
    let others = rest ++ drop s.undone (ahead s) in
    let in_front : ahead s ≡ x ∷ others = sym (take-append-drop s.undone (ahead s)) ∙ ap (λ (xs : List Entry). xs ++ drop s.undone (ahead s)) front in
    elim asks.asked [
      | inl full ↦ absurd (cc (front, full.0))
      | inr h ↦ elim h [
        | inl made ↦ omega (arith, made.2, redo_room (journal s).world first.after (journal s).undone rest x (room s) front first.goes session.has_room made.1)
        | inr lone ↦ lone.lacks (record { lists = λ t. fits_again (is_listed_for t) (spare (index s) t) lone.after.entry x (ahead s) others (same_entry _ lone.after first.after x lone.goes first.goes) in_front })
      ]
    ]

-- so a session can't refuse it
pub undone_not_refused : {R : ℕ} (s : Session R) (x : Entry) (rest : List Entry) (cause : Refusal) → (journal s).undone ≡ x ∷ rest → MayRefuse s x.event cause → ⊥
undone_not_refused s x rest cause front (inl h) = let goes = undone_goes s x rest front in grind arith
undone_not_refused s x rest cause front (inr h) = undone_asks_for_none s x rest front h.1
