-- Replaying events: which ones happen, and which one is refused.
use Rattle.rd_trace.proofs.Prelude.{common_steps, AllByRecursion, cond-false, IsDistinct-head, IsDistinct-tail, take-append_seam, drop-append_seam, append-nil, length-map, map-append, map_push, take_all, take-append-drop, length-take-le, World, Refusal, Stepped, Ran, run, MOST_STEPS, result_map, Event, State, step_after, with_event, apply, back, MarkName, MOST_MARKS, bytes_of, mark_name_eq, Mark, BookState, events_by_name, mark, CanRun, MarksCanRun, HaveDifferentNames, SavedMark, TraceFault, Flawed, TraceMark, TraceStep, saved_mark, start_world, start_flaw, Trace, loaded_state, session_at, first_refused, first_mark_fault, trace_fault, Replays, IsFaultOfEvents, GoesTo, MakesWorld, SetsMarks, le-ltb, ◌≡◌, ◌⊎◌, inl, inr, ℕ, suc, ◌+◌, ◌-◌, ◌<◌, ◌≤◌, if◌then◌else◌, Bool, false, List, [], ◌∷◌, ◌++◌, length, take, drop, get_or, map, Some, None, is_some, Option, option_map, Result, Ok, Err, IsOk, refl, sym, ap, ap₂, ◌∙◌, subst, arith, append_assoc, length-append, ne_eqb, option_or, result_err, at_events, with_marks, with_session, NoMemory, Reply, IsEventAnswer}
use Rattle.std.proofs.lemmas.Cmp.{nat_list_eq_equiv}
use Rattle.rd_step.proofs.Equivalence.{ran_through}
use Rattle.rd_marks.proofs.MarkLemmas.{mark_goes}
use Rattle.rd_trace.proofs.SpellLemmas.{split_at, take_item}
use Rattle.rd_cell.specs.declared.refusal.Refusal.TheVariants as refusal

-- The first event that is refused

option_or_assoc : {X : Type 0} (o p q : Option X) → option_or o (option_or p q) ≡ option_or (option_or o p) q
option_or_assoc None p q = refl
option_or_assoc (Some x) p q = refl

not_refused : (s : State) (e : Event) (full : Bool) (o : Result Stepped Refusal) → full ≡ false → IsOk o → result_err (if full then Err refusal.TooLong else result_map (λ stepped. with_event s e) o) ≡ None
not_refused s e full o room ok = grind arith

-- the first refused event of an event after these and of later ones: the event itself if it has a
-- cause, else the first of the later ones
abbrev then_refused : List Event → Option Refusal → Option (ℕ × Refusal) → Option (ℕ × Refusal)
then_refused b cause later = option_or (option_map (λ c. (length b + 1, c)) cause) later

module _ (w : World) where
  first_refused-append : (b xs ys : List Event) → first_refused w b (xs ++ ys) ≡ option_or (first_refused w b xs) (first_refused w (b ++ xs) ys)
  first_refused-append b [] ys = ap (λ (l : List Event). first_refused w l ys) (sym (append-nil b))
  first_refused-append b (x ∷ xs) ys = grind (arith, append_assoc, option_or_assoc, first_refused-append (b ++ x ∷ []) xs ys)

  -- if a list of events can run, each event happens in the last world of those before it
  happens_in : (b : List Event) (e : Event) (es : List Event) (o : Result Ran Refusal) → run w (b ++ e ∷ es) ≡ o → IsOk o → IsOk (step_after (run w b) e)
  happens_in b e es (Ok ran) is ok = let t = ran_through w b e es ran is in grind arith
  happens_in b e es (Err cause) is ok = absurd cc

  -- if events can run, none of them is refused
  pub none_refused : (b es : List Event) → CanRun w (b ++ es) → first_refused w b es ≡ None
  none_refused b [] h = refl
  none_refused b (e ∷ es) h =
      let room = ne_eqb (length b) MOST_STEPS (omega (arith, h.few, length-append b (e ∷ es))) in
      let here = not_refused (session_at w b) e _ _ room (happens_in b e es (run w (b ++ e ∷ es)) refl h.runs) in
      let rest = none_refused (b ++ e ∷ []) es (subst (CanRun w) (sym (append_assoc b (e ∷ []) es)) h) in
      ap₂ (then_refused b) here rest

  first_mark_fault-append : (n : ℕ) (xs ys : List Mark) → first_mark_fault w n (xs ++ ys) ≡ option_or (first_mark_fault w n xs) (first_mark_fault w (n + length xs) ys)
  first_mark_fault-append n [] ys = let at : n ≡ n + 0 = omega arith in ap (λ (k : ℕ). first_mark_fault w k ys) at
  first_mark_fault-append n (x ∷ xs) ys = let at : n + 1 + length xs ≡ n + suc (length xs) = omega arith in grind (arith, option_or_assoc, first_mark_fault-append (n + 1) xs ys)

  pub no_mark_refused : (n : ℕ) (ms : List Mark) → MarksCanRun w ms → first_mark_fault w n ms ≡ None
  no_mark_refused n [] h = refl
  no_mark_refused n (m ∷ ms) h = rw (none_refused [] m.events h.0, no_mark_refused (n + 1) ms h.1)

-- One event

-- the session that an event leaves when it happens is `with_event` of the session before
applied : (s after : State) (e : Event) (full : Bool) (o : Result Stepped Refusal) → (if full then Err refusal.TooLong else result_map (λ stepped. with_event s e) o) ≡ Ok after → after ≡ with_event s e
applied s after e full o h = grind arith

pub none_stepped : (b : BookState) → CanRun b.session.start b.session.live → b.session.undone ≡ [] → GoesTo b (b.session.live ++ []) b (Ok tt)
none_stepped b through none =
    let all = sym (append-nil b.session.live) in (
      (λ i. record { session = record { start = b.session.start; live = all i; undone = none i }; marks = b.marks }),
      none_refused b.session.start [] _ (subst (λ (es : List Event). CanRun b.session.start es) all through),
    )

-- the first i events happened after the live ones, and this is the next event
module _ (old now : BookState) (es : List Event) (i : ℕ) (e : Event) (within : i < length es) (is : e ≡ get_or es i e) (so_far : GoesTo old (old.session.live ++ take i es) now (Ok tt)) where
  at_now : apply now.session e ≡ apply (session_at old.session.start (old.session.live ++ take i es)) e
  at_now = ap (λ (b : BookState). apply b.session e) so_far.0

  -- the first refused event of those so far, this one and later ones: this one if its answer is a
  -- refusal, else the first of the later ones
  first_refused-at_next : (later : List Event) (answer : Result State Refusal) → apply now.session e ≡ answer → first_refused old.session.start [] ((old.session.live ++ take i es) ++ e ∷ later)
      ≡ then_refused (old.session.live ++ take i es) (result_err answer) (first_refused old.session.start ((old.session.live ++ take i es) ++ e ∷ []) later)
  first_refused-at_next later answer said = grind (arith, first_refused-append, at_now)

  pub one_stepped : (after : BookState) → apply now.session e ≡ Ok after.session → after.marks ≡ now.marks → GoesTo old (old.session.live ++ take (i + 1) es) after (Ok tt)
  one_stepped after h marks =
      let w = old.session.start in
      let live = old.session.live ++ take i es in
      let left = applied (session_at w live) after.session e _ _ (sym at_now ∙ h) in
      rw (take_item es i e within is, ← append_assoc old.session.live (take i es) (e ∷ []))
      ((λ j. record { session = left j; marks = (marks ∙ ap (λ (b : BookState). b.marks) so_far.0) j }), first_refused-at_next [] (Ok after.session) h)

  pub one_refused : (n : ℕ) (cause : Refusal) → n ≡ length now.session.live + 1 → (cause ≡ refusal.NoMemory → ⊥) → (cause ≡ refusal.NoMemory) ⊎ (apply now.session e ≡ Err cause)
      → IsFaultOfEvents old.session.start (old.session.live ++ es) (TraceStep n cause)
  one_refused n cause number other (inl memory) = absurd (other memory)
  one_refused n cause number other (inr h) =
      let live = old.session.live ++ take i es in
      let all : old.session.live ++ es ≡ live ++ e ∷ drop (i + 1) es =
      ap (λ (fs : List Event). old.session.live ++ fs) (split_at es i e within is) ∙ sym (append_assoc old.session.live (take i es) (e ∷ drop (i + 1) es)) in
      let here : length live + 1 ≡ n = sym (number ∙ ap (λ (b : BookState). length b.session.live + 1) so_far.0) in
      inr (n, cause, ap (first_refused old.session.start []) all ∙ first_refused-at_next (drop (i + 1) es) (Err cause) h ∙ ap (λ (m : ℕ). Some (m, cause)) here, refl)

-- An event's answer

-- the session of an event that happened is the answer of `apply`, and the bookmarks are the same
pub happened : (b after : BookState) (e : Event) (reply : Reply) → IsEventAnswer b e (record { answer = Ok reply; state = after })
    → (apply b.session e ≡ Ok after.session) × (after.marks ≡ b.marks)
happened b after e reply k = grind (arith, common_steps)

pub not_happened : (b after : BookState) (e : Event) (cause : Refusal) → IsEventAnswer b e (record { answer = Err cause; state = after })
    → (cause ≡ refusal.NoMemory) ⊎ (apply b.session e ≡ Err cause)
not_happened b after e cause k = grind (arith, common_steps)

-- Going back

back_left : (n k : ℕ) (s t : State) → n + k ≡ length s.live → back s n ≡ Ok t → t ≡ record { start = s.start; live = take k s.live; undone = drop k s.live ++ s.undone }
back_left n k s t h goes = grind (arith, le-ltb, cond-false)

-- Making just these events live

-- the result of making just these events live doesn't depend on which events were live before
goes_from : (old new : BookState) (es fs : List Event) (r : Result (Unit {0}) TraceFault) → GoesTo (at_events old fs) es new r → GoesTo old es new r
goes_from old new es fs (Ok done) h = h
goes_from old new es fs (Err fault) h = h

pub from_old : (old mid new : BookState) (es fs : List Event) (r : Result (Unit {0}) TraceFault) → mid ≡ at_events old es → GoesTo mid (mid.session.live ++ fs) new r → GoesTo old (es ++ fs) new r
from_old old mid new es fs r at h = goes_from old new (es ++ fs) es r (subst (λ (b : BookState). GoesTo b (b.session.live ++ fs) new r) at h)

-- if just the first k events of a list are live, making the others happen makes just this list live
pub goes_to : (old mid new : BookState) (es rest : List Event) (k : ℕ) (r : Result (Unit {0}) TraceFault) → mid ≡ at_events old (take k old.session.live)
    → take k old.session.live ≡ take k es → rest ≡ drop k es → GoesTo mid (mid.session.live ++ rest) new r → GoesTo old es new r
goes_to old mid new es rest k r at shared behind h =
    subst (λ (fs : List Event). GoesTo old fs new r) (ap₂ (λ (fs gs : List Event). fs ++ gs) shared behind ∙ take-append-drop k es) (from_old old mid new (take k old.session.live) rest r at h)

-- Making these events live and others undone

-- just the first events were made live and just the second ones undone; none of them is refused
abbrev pub MakesLive : BookState → List Event → List Event → BookState → Type 0
MakesLive old live undone new =
    (new ≡ with_session old (record { start = old.session.start; live = live; undone = undone }))
    × (first_refused old.session.start [] (live ++ undone) ≡ None)

pub live_refused : (w : World) (es fs : List Event) (fault : TraceFault) → IsFaultOfEvents w es fault → IsFaultOfEvents w (es ++ fs) fault
live_refused w es fs fault (inl memory) = inl memory
live_refused w es fs fault (inr h) = inr (h.0, h.1, first_refused-append w [] es fs ∙ ap (λ (o : Option (ℕ × Refusal)). option_or o (first_refused w es fs)) h.2, h.3)

back_to : (w : World) (es fs : List Event) (t : State) → back (session_at w (es ++ fs)) (length fs) ≡ Ok t → t ≡ record { start = w; live = es; undone = fs }
back_to w es fs t goes = simp (take-append_seam, drop-append_seam, append-nil) at (back_left (length fs) (length es) (session_at w (es ++ fs)) t (omega (arith, length-append es fs)) goes)

-- at least as many events are live as are to be undone
pub enough_live : (old mid now : BookState) (es fs : List Event) → mid ≡ at_events old es → GoesTo mid (mid.session.live ++ fs) now (Ok tt) → length fs ≤ length now.session.live
enough_live old mid now es fs at h = grind (arith, from_old, length-append)

pub made_live : (old mid now new : BookState) (es fs : List Event) → mid ≡ at_events old es → GoesTo mid (mid.session.live ++ fs) now (Ok tt)
    → back now.session (length fs) ≡ Ok new.session → new.marks ≡ now.marks → MakesLive old es fs new
made_live old mid now new es fs at h goes marks = grind (arith, from_old, back_to)

-- Bookmarks

-- the fault of an event of the bookmark of this number, from the event's own fault
abbrev pub mark_fault : ℕ → TraceFault → TraceFault
mark_fault mark (TraceStep step cause) = TraceMark mark step cause
mark_fault mark fault = fault

-- these bookmarks were set so far: the book has just them, its start is the old one, and none of
-- their events is refused
pub record HasSet (old now : BookState) (done : List Mark) : Type 0 where
  pub marks : now.marks ≡ done
  pub start : now.session.start ≡ old.session.start
  pub none : first_mark_fault old.session.start 0 done ≡ None

mark_set : (after x : BookState) (taken full : Bool) → (if taken then Err refusal.MarkTaken else if full then Err refusal.TooManyMarks else Ok x) ≡ Ok after → after ≡ x
mark_set after x taken full h = grind arith

differs : (x : Mark) (before : List Mark) (m : Mark) (later : List Mark) → AllByRecursion (λ y. mark_name_eq x.name y ≡ false) (map (λ y. y.name) (before ++ m ∷ later))
    → mark_name_eq x.name m.name ≡ false
differs x [] m later h = h.0
differs x (y ∷ before) m later h = differs x before m later h.1

-- if the names of bookmarks differ, no bookmark before one of them has its name
none_taken : (before : List Mark) (m : Mark) (later : List Mark) → HaveDifferentNames (before ++ m ∷ later) → events_by_name before m.name ≡ None
none_taken [] m later h = refl
none_taken (x ∷ before) m later h =
    let names : List MarkName = map (λ (y : Mark). y.name) (before ++ m ∷ later) in
    let apart : mark_name_eq m.name x.name ≡ false =
    nat_list_eq_equiv.symm (bytes_of m.name) (bytes_of x.name) ∙ differs x before m later (IsDistinct-head mark_name_eq x.name names h) in
    rw apart (none_taken before m later (IsDistinct-tail mark_name_eq x.name names h))

module _ (old now : BookState) (ms : List SavedMark) (i : ℕ) (m : SavedMark) (within : i < length ms) (is : m ≡ get_or ms i m) (so_far : HasSet old now (map saved_mark (take i ms))) where
  -- the first refused event of the bookmarks so far, this one and later ones: this one's first if
  -- it has one, else the first of the later ones
  from_mark : (later : List Mark) (o : Option (ℕ × Refusal)) → first_refused old.session.start [] m.events.items ≡ o
      → first_mark_fault old.session.start 0 (map saved_mark (take i ms) ++ saved_mark m ∷ later)
      ≡ option_or (option_map (λ (r : ℕ × Refusal). TraceMark (i + 1) r.0 r.1) o) (first_mark_fault old.session.start (i + 1) later)
  from_mark later o said =
      let w = old.session.start in
      let done = map saved_mark (take i ms) in
      let count : 0 + length done ≡ i = omega (arith, length-map (take i ms) saved_mark, length-take-le i ms (omega arith)) in
      rw (first_mark_fault-append w 0 done (saved_mark m ∷ later), so_far.none, count, said)

  pub one_set : (mid after : BookState) → GoesTo now m.events.items mid (Ok tt) → mark mid m.name ≡ Ok after → HasSet old after (map saved_mark (take (i + 1) ms))
  one_set mid after goes made =
      let set : after ≡ with_marks mid (mid.marks ++ record { name = m.name; events = mid.session.live } ∷ []) = mark_set after _ _ _ made in
      let there : after ≡ record { session = session_at now.session.start m.events.items; marks = now.marks ++ saved_mark m ∷ [] } =
      set ∙ ap (λ (b : BookState). with_marks b (b.marks ++ record { name = m.name; events = b.session.live } ∷ [])) goes.0 in
      rw (take_item ms i m within is, map_push)
      (record {
        marks = ap (λ (b : BookState). b.marks) there ∙ ap (λ (done : List Mark). done ++ saved_mark m ∷ []) so_far.marks;
        start = ap (λ (b : BookState). b.session.start) there ∙ so_far.start;
        none = from_mark [] None (subst (λ (w : World). first_refused w [] m.events.items ≡ None) so_far.start goes.1);
      })

  placed : map saved_mark ms ≡ map saved_mark (take i ms) ++ saved_mark m ∷ map saved_mark (drop (i + 1) ms)
  placed = ap (map saved_mark) (split_at ms i m within is) ∙ map-append saved_mark (take i ms) (m ∷ drop (i + 1) ms)

  -- setting the next bookmark is refused only for memory: there is room for it, and no other has
  -- its name
  pub can_mark : (mid : BookState) (cause : Refusal) → GoesTo now m.events.items mid (Ok tt) → HaveDifferentNames (map saved_mark ms) → length ms ≤ MOST_MARKS
      → (cause ≡ refusal.NoMemory → ⊥) → (mark mid m.name ≡ Err cause) ⊎ ((cause ≡ refusal.NoMemory) × IsOk (mark mid m.name)) → ⊥
  can_mark mid cause goes names few other (inl h) =
      let set : mid.marks ≡ map saved_mark (take i ms) = ap (λ (b : BookState). b.marks) goes.0 ∙ so_far.marks in
      let free : is_some (events_by_name mid.marks m.name) ≡ false =
      ap (λ (done : List Mark). is_some (events_by_name done m.name)) set
      ∙ ap is_some (none_taken (map saved_mark (take i ms)) (saved_mark m) (map saved_mark (drop (i + 1) ms)) (subst (λ (xs : List Mark). HaveDifferentNames xs) placed names)) in
      let few_so_far : length mid.marks ≡ i = omega (arith, ap length set, length-map (take i ms) saved_mark, length-take-le i ms (omega arith)) in
      let made = mark_goes mid m.name free (omega arith) in
      cc (made, h)
  can_mark mid cause goes names few other (inr h) = other h.0

  -- the fault of making the next bookmark's events live, with its number, is a result of setting
  -- all bookmarks
  pub mark_refused : (new : BookState) (its : TraceFault) → IsFaultOfEvents now.session.start m.events.items its → SetsMarks old (map saved_mark ms) new (Err (mark_fault (i + 1) its))
  mark_refused new its (inl memory) = inl (ap (mark_fault (i + 1)) memory)
  mark_refused new its (inr h) =
      inr
      (ap (first_mark_fault old.session.start 0) placed
      ∙ from_mark (map saved_mark (drop (i + 1) ms)) (Some (h.0, h.1)) (subst (λ (w : World). first_refused w [] m.events.items ≡ Some (h.0, h.1)) so_far.start h.2)
      ∙ ap Some (sym (ap (mark_fault (i + 1)) h.3)))

pub all_set : (old new : BookState) (ms : List SavedMark) (i : ℕ) → length ms ≤ i → HasSet old new (map saved_mark (take i ms)) → SetsMarks old (map saved_mark ms) new (Ok tt)
all_set old new ms i all k = grind (arith, take_all)

-- Whole traces

-- the fault of making the world of its start is a result of replaying a trace
pub no_world : {R : ℕ} (t : Trace R) {B : Type 0} (IsBook : B → Type 0) (fault : TraceFault) → MakesWorld t.start (Err fault) → Replays IsBook t (Err fault)
no_world t IsBook fault h = grind arith

module _ {R : ℕ} (t : Trace R) (flawless : start_flaw t.start ≡ None) where
  -- the fault of a trace whose start has no flaw: the first refused event of its bookmarks, else of
  -- its live and undone events
  fault_of : (o : Option TraceFault) (p : Option (ℕ × Refusal)) → first_mark_fault (start_world t.start) 0 t.marks ≡ o → first_refused (start_world t.start) [] (t.live ++ t.undone) ≡ p
      → trace_fault t ≡ option_or o (option_map (λ (r : ℕ × Refusal). TraceStep r.0 r.1) p)
  fault_of o p marks steps = λ i. option_or (option_map Flawed (flawless i)) (option_or (marks i) (option_map (λ (r : ℕ × Refusal). TraceStep r.0 r.1) (steps i)))

  -- a trace whose start has no flaw and whose events can run has no fault
  pub no_fault : MarksCanRun (start_world t.start) t.marks → CanRun (start_world t.start) (t.live ++ t.undone) → trace_fault t ≡ None
  no_fault marks through = fault_of None None (no_mark_refused (start_world t.start) 0 t.marks marks) (none_refused (start_world t.start) [] (t.live ++ t.undone) through)

  module _ (old : BookState) (start : old.session.start ≡ start_world t.start) where
    -- the fault of setting the bookmarks is a result of replaying the trace
    pub no_marks : {B : Type 0} (IsBook : B → Type 0) (new : BookState) (fault : TraceFault) → SetsMarks old t.marks new (Err fault) → Replays IsBook t (Err fault)
    no_marks IsBook new fault h = grind (arith, fault_of)

    module _ (now : BookState) (set : SetsMarks old t.marks now (Ok tt)) where
      by_steps : (p : Option (ℕ × Refusal)) → first_refused now.session.start [] (t.live ++ t.undone) ≡ p → trace_fault t ≡ option_map (λ (r : ℕ × Refusal). TraceStep r.0 r.1) p
      by_steps p h = grind (arith, fault_of)

      -- the fault of making its live and undone events happen is a result of replaying the trace
      pub no_steps : {B : Type 0} (IsBook : B → Type 0) (fault : TraceFault) → IsFaultOfEvents now.session.start (t.live ++ t.undone) fault → Replays IsBook t (Err fault)
      no_steps IsBook fault h = grind (arith, by_steps)

      -- if all its events happened, the trace has no fault, and the book is the trace's
      pub plays : (new : BookState) → MakesLive now t.live t.undone new → (trace_fault t ≡ None) × (new ≡ loaded_state t)
      plays new h = grind (arith, by_steps)
