-- How each call keeps the fact that the events of `here` begin the session's track.
use Rattle.rd_marks.proofs.Prelude.{◌≡◌, ℕ, zero, suc, ◌-◌, ◌≤◌, refl, ap, List, [], ◌∷◌, ◌++◌, length, take, drop, Ok, arith, take-append_seam, take-length, take-map, take-take, take-append-le, length-map, length-take, closure, items_where_false, Event, Entry, Begins, Session, Journal, ahead_entries, state, track, State, Node, Stretch, stretch_list, entries_at, IsWithin, AgreesFor, events, live_event, is_live, went_through, Result, Refusal, and_then, cases_lt, drop_all, append-nil}
use Rattle.rd_journal.specs.Moves.{IsAppendedToLive, IsUndoneAlone, IsRolledBack}
use Rattle.rd_marks.proofs.Starting.{begins_events, begins_shorter, begins_trans, events_length, events_of_first, fewer_begin, entries_length}

-- How many of the first live entries each call keeps

without_leaves : {X : Type 0} (m k : ℕ) (xs : List X) → m ≤ k → take m (take m xs ++ drop k xs) ≡ take m xs
without_leaves m k xs h = grind (arith, cases_lt (length xs) m, take-append-le m (take m xs) (drop k xs), take-take m m xs, length-take, drop_all k xs, append-nil (take m xs))

pub undone_alone_leaves : (k n : ℕ) (old new : Journal) → n ≡ k - 1 → IsUndoneAlone k old new → take n new.live ≡ take n old.live
undone_alone_leaves k n old new its taken = grind (arith, without_leaves)

closure_leaves : (n : ℕ) (xs : List Entry) → take n (items_where_false (closure xs (suc n)) xs) ≡ take n xs
closure_leaves zero xs = refl
closure_leaves (suc n) [] = refl
closure_leaves (suc n) (x ∷ xs) = ap (λ (ys : List Entry). x ∷ ys) (closure_leaves n xs)

pub roll_leaves : (k n : ℕ) (old new : Journal) → n ≡ k - 1 → IsRolledBack k old new → take n new.live ≡ take n old.live
roll_leaves k n old new its rolled = grind (arith, closure_leaves)

pub added_leaves : (n : ℕ) (x : Entry) (old new : Journal) → n ≡ length old.live → IsAppendedToLive x old new → take n new.live ≡ take n old.live
added_leaves n x old new all more = grind (arith, take-append_seam, take-length)

-- A step that was undone or rolled back by its number was live

pub was_live : (s : State) (k : ℕ) (f : Event → Result State Refusal) (t : State) → and_then (live_event s k) f ≡ Ok t → k ≤ length s.live
was_live s k f t h = let live = went_through (live_event s k) f t h in (is_live s k live.0 live.1).1

module _ (here there : List Entry) (begins : Begins there here) where
  -- if `here` begins the track, so does every beginning of it
  pub still_begins : (steps : List Event) → Begins (events here) steps → Begins (events there) steps
  still_begins steps stands = begins_trans (events there) (events here) steps (begins_events there here begins) stands

  -- if the first n live steps stayed, a beginning of `here` with at most n entries begins the new
  -- track, whatever is ahead
  pub track_cut : (n : ℕ) (old new : Journal) (old_ahead new_ahead : List Event) → Begins (events here) (events old.live ++ old_ahead)
      → length there ≤ n → n ≤ length old.live → take n new.live ≡ take n old.live → Begins (events there) (events new.live ++ new_ahead)
  track_cut n old new old_ahead new_ahead stands short within same =
      let still = still_begins (events old.live ++ old_ahead) in
      let cut = take-take {A = Event} (length (events there)) n in
      grind (arith, stands, short, within, same, still, length-map, length-take, take-map, take-append-le, cut (events new.live ++ new_ahead), cut (events old.live ++ old_ahead))

-- entries whose events are the live ones begin the track
pub live_begin : {R : ℕ} (session : Session R) (xs : List Entry) → events xs ≡ (state session).live → Begins (events xs) (track session)
live_begin session xs its = grind (arith, take-append_seam)

-- Nodes whose events begin the live ones or the track

module _ (ss : List Stretch) where
  -- a node of the same stretch as `here`, with no more entries than it and the live steps have,
  -- begins the live events
  pub live_along : {R : ℕ} (session : Session R) (here at : Node) (xs : List Entry) → events xs ≡ (state session).live → IsWithin ss here
      → Begins (events (entries_at ss here)) (track session) → at.stretch ≡ here.stretch → at.number ≤ here.number → at.number ≤ length xs
      → IsWithin ss at × AgreesFor ss at.stretch at.number (events xs)
  live_along session here at xs its within stands same fewer few =
      let first = fewer_begin ss here at within same fewer in
      let all = length-map xs (λ (x : Entry). x.event) in
      let seam = take-append-le at.number (events xs) (events (ahead_entries session.entries)) (omega (arith, few, all)) in
      let still = still_begins (entries_at ss here) (entries_at ss at) first.1 (track session) stands in
      (first.0, grind (arith, its, few, all, seam, still, events_length ss at first.0, events_of_first at.number (stretch_list ss at.stretch)))

  -- if `here` begins with the entries of a node, these are the first steps of the track
  pub along_to : (at here : Node) (steps : List Event) → IsWithin ss at → IsWithin ss here → Begins (events (entries_at ss here)) steps → (n : ℕ) → n ≡ at.number → n ≤ here.number
      → take n (entries_at ss here) ≡ take n (entries_at ss at) → (n ≤ length steps) × (take n steps ≡ events (entries_at ss at))
  along_to at here steps is within stands n all fewer alike =
      let long = events_length ss here within in
      let taken = take-take n (length (events (entries_at ss here))) steps (omega (arith, long, fewer)) in
      let enough : n ≤ length steps = omega (arith, begins_shorter (events (entries_at ss here)) steps stands, long, fewer) in
      (enough, grind (arith, stands, all, alike, taken, events_of_first n (entries_at ss here), take-length (entries_at ss at), entries_length ss at is))
