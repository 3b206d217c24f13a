-- What the calls of a session answer, over its journal.
use Rattle.rd_journal.proofs.Prelude.{◌≡◌, ℕ, ◌+◌, ◌-◌, ◌<◌, ◌≤◌, ◌⊎◌, refl, sym, ◌∙◌, ap, subst, List, [], ◌∷◌, ◌++◌, length, get_or, ok_or, Result, Ok, Err, IsOk, IfErr, inl, inr, arith, ne_eqb, length-append, opened_with, and_then, result_map, cond-false, map-append, length-map, take-map, slice_get_past, slice_get-get_or, slice_get-map, Refusal, Stepped, step, IsWellFormed, MOST_STEPS, Event, Entry, model, room, live_entries, ahead_entries, kept_entries, IsIndexOf, whole_journal, journal, state, MayLackMemory, Journal, events, IsRun, entry_of, IsSession, HasRoomToRedo, State, state_of, with_event, apply, back, forward, live_event, IsAppendedToLive, IsMovedBack, IsRunWithoutLast, AsksForMemory, Entries, slice_get_cases, Session}
use Rattle.rd_journal.specs.Sessions.{KeepsItsSteps, MayRefuse, ahead, capacity, room as session_room, index}
use Rattle.std.specs.declared.snapshot.Snapshot.{Snapshot}
use Rattle.rd_step.specs.declared.worlds.World.{World as CodeWorld}
use Rattle.rd_journal.proofs.Ahead.{is_session}
use Rattle.rd_journal.proofs.Runs.{step_event, is_run-with_step}
use Rattle.rd_cell.specs.declared.refusal.Refusal.TheVariants as refusal

-- Lengths

pub live_len : (j : Journal) → length (state_of j).live ≡ length j.live
live_len j = length-map j.live (λ x. x.event)

-- The start

-- the world that a session was opened with is the one that was kept
pub opened_is : {R : ℕ} (opened : Snapshot (CodeWorld R)) (world : CodeWorld R) → opened.value ≡ world → opened_with opened ≡ model world
unfolding opened_with
opened_is opened world h = ap model h

-- the rings of the opened world have as many cells as the session's
pub opened_ring : {R : ℕ} (opened : Snapshot (CodeWorld R)) → (opened_with opened).ring ≡ R
unfolding opened_with
opened_ring opened = refl

-- Back and forward

-- undoing keeps the start
pub back_start : (s : State) (n : ℕ) (t : State) → back s n ≡ Ok t → t.start ≡ s.start
back_start s n t h = grind arith

-- redoing keeps the start
pub forward_start : (s : State) (n : ℕ) (t : State) → forward s n ≡ Ok t → t.start ≡ s.start
forward_start s n t h = grind arith

-- after going back, the journal is the run of all but the last events
pub before_last : (n : ℕ) (old new : Journal) → IsMovedBack n old new → IsRun new → new.start ≡ old.start → IsRunWithoutLast n old new
before_last n old new moved runs start = grind (arith, take-map)

-- Entries by number

pub entry_missing : (j : Journal) (n k : ℕ) → n ≡ length j.live → (k ≡ 0) ⊎ (n < k) → Err (refusal.NoSuchStep n) ≡ entry_of j k
entry_missing j n k len h = grind (arith, ok_or, slice_get_past)

pub entry_found : (j : Journal) (k : ℕ) (x : Entry) → 1 ≤ k → k ≤ length j.live → x ≡ get_or j.live (k - 1) x → Ok x ≡ entry_of j k
entry_found j k x some within here = grind (arith, ok_or, slice_get-get_or)

-- the live event of a number is the event of the live entry of that number
pub event_of_entry : (j : Journal) (k : ℕ) → live_event (state_of j) k ≡ result_map (λ x. x.event) (entry_of j k)
event_of_entry j k = grind (arith, live_len, slice_get-map)

-- the number of a live event is at least 1 and at most the number of live events
pub is_live : (s : State) (k : ℕ) (e : Event) → live_event s k ≡ Ok e → (1 ≤ k) × (k ≤ length s.live)
is_live s k e h1 = grind (arith, slice_get_cases)

-- if a chain of two calls succeeds, the first one did
pub went_through : {T U : Type 0} (r : Result T Refusal) (f : T → Result U Refusal) (y : U) → and_then r f ≡ Ok y → (x : T) × (r ≡ Ok x) × (f x ≡ Ok y)
went_through r f y h1 = grind arith

-- One more step

pub longer_session : (old new : Journal) (e : Event) (x : Entry) (before after : ℕ → ℕ)
    → IsSession old before → length old.live < MOST_STEPS → step old.world e ≡ Ok (record { world = new.world; entry = x }) → new.start ≡ old.start → IsAppendedToLive x old new
    → IsSession new after
longer_session old new e x before after session less h start longer =
    let whole : new ≡ record { start = old.start; world = new.world; live = old.live ++ x ∷ []; undone = [] } =
    λ i. record { start = start i; world = new.world; live = longer.live i; undone = longer.undone i } in
    record {
      few = omega (arith, ap length longer.live, length-append old.live (x ∷ []), ap length longer.undone);
      runs = subst (λ (j : Journal). IsRun j) (sym whole) (is_run-with_step old.start old.world new.world old.live old.undone [] x e session.runs h refl);
      has_room = subst (λ (ys : List Entry). HasRoomToRedo ys after) (sym longer.undone) (record { at = λ k. omega arith });
    }

-- a session that opens in a world
pub opened_session : (j : Journal) (room : ℕ → ℕ) → IsWellFormed j.world → j.start ≡ j.world → j.live ≡ [] → j.undone ≡ [] → IsSession j room
opened_session j room formed start live undone = grind arith

-- what holds of a session still holds if its world and its entries stay
pub record IsStill {R : ℕ} (old : Session R) (world : CodeWorld R) (entries : Entries) : Type 0 where
  pub kept : IsSession (whole_journal (opened_with old.opened) (model world) entries) (room world)
  pub within : old.undone ≤ length (ahead_entries entries)
  pub indexed : IsIndexOf old.index (kept_entries entries)

pub still : {R : ℕ} (old : Session R) (world : CodeWorld R) (entries : Entries) → model world ≡ model old.world → live_entries entries ≡ live_entries old.entries
    → ahead_entries entries ≡ ahead_entries old.entries → ((m : ℕ) → room old.world m ≤ room world m) → IsStill old world entries
still old world entries same live ahead more = record {
  kept =
      subst (λ (j : Journal). IsSession j (room world)) (λ i. record { start = opened_with old.opened; world = sym same i; live = sym live i; undone = sym ahead i })
      (record { few = old.kept.few; runs = old.kept.runs; has_room = record { at = λ m. omega (arith, old.kept.has_room.at m, more m) } });
  within = omega (arith, old.within, ap length ahead);
  indexed = subst (λ (es : List Entry). IsIndexOf old.index es) (λ i. sym live i ++ sym ahead i) old.indexed;
}

-- a session with the opened world, the world and the entries from before has the same journal and
-- track
pub unchanged : {R : ℕ} (old new : Session R) → opened_with new.opened ≡ opened_with old.opened → model new.world ≡ model old.world → live_entries new.entries ≡ live_entries old.entries
    → ahead_entries new.entries ≡ ahead_entries old.entries → new.undone ≡ old.undone → KeepsItsSteps old new
unchanged old new start world live ahead count = grind arith

-- the event is answered as its step from the journal's world, since the live events lead there
applied : (j : Journal) (e : Event) (r : Result Stepped Refusal) → IsRun j → length j.live < MOST_STEPS → step j.world e ≡ r
    → apply (state_of j) e ≡ result_map (λ stepped. with_event (state_of j) e) r
applied j e r runs less k = grind (arith, live_len, cond-false, ne_eqb)

mapped_ok : {X Y : Type 0} (f : X → Y) (r : Result X Refusal) → IsOk r → IsOk (result_map f r)
mapped_ok f r ok = grind arith

-- if the step succeeds, so does the event
pub applies : (j : Journal) (e : Event) → IsRun j → length j.live < MOST_STEPS → IsOk (step j.world e) → IsOk (apply (state_of j) e)
applies j e runs less ok = rw (applied j e (step j.world e) runs less refl) (mapped_ok (λ (stepped : Stepped). with_event (state_of j) e) (step j.world e) ok)

-- a result that is `Ok` of some value is `Ok`
IsOk-from_ok : (r : Result Stepped Refusal) (s : Stepped) → r ≡ Ok s → IsOk r
IsOk-from_ok r s h = grind arith

-- if the session is out of memory for an event, its state may lack memory for it
may_lack : {R : ℕ} (s : Session R) (e : Event) → AsksForMemory (journal s) (ahead s) (capacity s) (session_room s) (index s) e → MayLackMemory (state s) e
may_lack s e out = record {
  not_full = omega (arith, out.not_full, live_len (journal s));
  asked = elim out.asked [
    | inl h ↦ inl (ap events h.0)
    | inr h ↦ inr (applies (journal s) e (is_session s).runs out.not_full (elim h [ inl made ↦ made.0 | inr lone ↦ IsOk-from_ok _ lone.after lone.goes ]))
  ];
}

-- so each cause with which the session may refuse an event is one with which its state may
pub may_refuse-state : {R : ℕ} {X : Type 0} (s : Session R) (e : Event) (r : Result X Refusal) → IfErr r (MayRefuse s e)
    → IfErr r (λ cause. (apply (state s) e ≡ Err cause) ⊎ ((cause ≡ refusal.NoMemory) × MayLackMemory (state s) e))
may_refuse-state s e (Ok x) h = h
may_refuse-state s e (Err cause) (inl h) = inl h
may_refuse-state s e (Err cause) (inr h) = inr (h.0, may_lack s e h.1)

pub apply_refused : (j : Journal) (e : Event) (refusal : Refusal) → IsRun j → length j.live < MOST_STEPS → step j.world e ≡ Err refusal
    → apply (state_of j) e ≡ Err refusal
apply_refused j e refusal runs less h = applied j e (Err refusal) runs less h

pub apply_goes : (old new : Journal) (e : Event) (x : Entry) → IsRun old → length old.live < MOST_STEPS
    → step old.world e ≡ Ok (record { world = new.world; entry = x }) → new.start ≡ old.start → IsAppendedToLive x old new → apply (state_of old) e ≡ Ok (state_of new)
apply_goes old new e x runs less h start longer =
    let its = step_event old.world e (record { world = new.world; entry = x }) h in
    let all : events (old.live ++ x ∷ []) ≡ events old.live ++ e ∷ [] =
    map-append (λ (y : Entry). y.event) old.live (x ∷ []) ∙ ap (λ (f : Event). events old.live ++ f ∷ []) its in
    let whole : new ≡ record { start = old.start; world = new.world; live = old.live ++ x ∷ []; undone = [] } =
    λ i. record { start = start i; world = new.world; live = longer.live i; undone = longer.undone i } in
    applied old e (Ok (record { world = new.world; entry = x })) runs less h
    ∙ (λ i. Ok (record { start = old.start; live = sym all i; undone = [] }))
    ∙ ap (λ (j : Journal). Ok (state_of j)) (sym whole)
