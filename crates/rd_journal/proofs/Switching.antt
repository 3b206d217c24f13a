-- Entries of a run put after the first live ones, and the room that their makings need.
use Rattle.rd_journal.proofs.Prelude.{common_steps, take-suc, cases_Bool, map-append, take-map, length-take-le, SegName, Place, Content, after, World, Stepped, step, run, MOST_STEPS, Event, Entry, room_used, room_returned, step_stages, with_actor-other, room_used_returned, Journal, events, IsRun, IsRunFrom, LeadsTo, IsSwitched, IsSession, room_returned_by, room_after_undoing, HasRoomToRedo, ActorsHaveRoom, state_of, switch, run_stays_actor, beginning, first_step, ◌≡◌, ◌≢◌, ℕ, zero, suc, ◌+◌, ◌-◌, ◌<◌, ◌≤◌, ◌==◌, Bool, false, refl, sym, ◌∙◌, ap, subst, arith, inl, inr, List, [], ◌∷◌, ◌++◌, length, take, drop, set, get_or, if◌then◌else◌, Option, Some, None, is_some, IsSome, Ok, length-append, made_segment, made_segment_at}
use Rattle.rd_journal.proofs.Runs.{runs_joined, as_ok-same, live_lead}

-- Counting makings

pub returned_once : (p : Option Place) (c : Option Content) (m : ℕ) → room_returned p c m ≤ 1
returned_once p c m = grind arith

pub returned_few : (xs : List Entry) (m : ℕ) → room_returned_by xs m ≤ length xs
returned_few [] m = omega arith
returned_few (x ∷ xs) m = omega (arith, returned_few xs m, returned_once x.place x.old_content m)

pub returned_joined : (xs ys : List Entry) (m : ℕ) → room_returned_by (xs ++ ys) m ≡ room_returned_by xs m + room_returned_by ys m
returned_joined [] ys m = omega arith
returned_joined (x ∷ xs) ys m = omega (arith, returned_joined xs ys m)

-- a making gives the room of one segment back to its maker
returned_made : (p : Option Place) (c : Option Content) (m : ℕ) (s : SegName) → made_segment_at p c ≡ Some s → room_returned p c m ≡ (if m == s.maker then 1 else 0)
returned_made p c m s h = grind (arith, h)

-- the makings among the first entries and the next one
returned_next : (xs : List Entry) (i m : ℕ) (d : Entry) → i < length xs
    → room_returned_by (take (i + 1) xs) m ≡ room_returned_by (take i xs) m + room_returned (get_or xs i d).place (get_or xs i d).old_content m
returned_next xs i m d h = grind (arith, common_steps, take-suc, returned_joined)

-- Who makes

-- a step adds no actor, and its own actor is there
not_its_actor : (w : World) (e : Event) (s : Stepped) (m : ℕ) → step w e ≡ Ok s → is_some (w.actor m) ≡ false → m ≢ e.actor
not_its_actor w e s m k none same = grind arith

brings_no_actor : (w : World) (e : Event) (s : Stepped) (m : ℕ) → step w e ≡ Ok s → is_some (w.actor m) ≡ false
    → is_some (s.world.actor m) ≡ false
brings_no_actor w e s m k none = grind (arith, step_stages, with_actor-other)

used_by_other : (made : Bool) (n m : ℕ) → m ≢ n → room_used made n m ≡ 0
used_by_other made n m ne = grind arith

-- an actor that isn't in the world makes nothing
none_made : (w : World) (xs : List Entry) (m : ℕ) → IsRunFrom w xs → is_some (w.actor m) ≡ false → room_returned_by xs m ≡ 0
none_made w [] m h none = refl
none_made w (x ∷ xs) m h none =
    let first = first_step w x xs h in
    let s : Stepped = record { world = first.after; entry = x } in
    let rest = none_made first.after xs m first.rest (brings_no_actor w x.event s m first.goes none) in
    grind (arith, room_used_returned w x.event s m first.goes, used_by_other, not_its_actor)

-- Runs cut in two

-- if one run begins another, the other entries run on from the one's last world
pub rest_runs_on : (s w : World) (xs ys : List Entry) → run s (events xs) ≡ Ok (record { world = w; entries = xs }) → IsRunFrom s (xs ++ ys)
    → IsRunFrom w ys
rest_runs_on s w [] ys h k = grind (arith, as_ok-same)
rest_runs_on s w (x ∷ xs) ys h k = grind (arith, first_step s x (xs ++ ys) k, beginning s x xs w h, rest_runs_on (beginning s x xs w h).after w xs ys (beginning s x xs w h).rest)

-- The session with these entries after the border

-- there is room for every maker if there is for those that are actors after the live steps
pub room_for_all : (s w : World) (xs ys : List Entry) (room : ℕ → ℕ) → run s (events xs) ≡ Ok (record { world = w; entries = xs })
    → (n : ℕ) → IsRunFrom s (take n xs ++ ys) → ActorsHaveRoom w ys room → HasRoomToRedo ys room
room_for_all s w xs ys room ran n h has = record {
  at = λ m.
      elim (cases_Bool (is_some (s.actor m))) [
        | inl e ↦ has.at m (run_stays_actor s (events xs) (record { world = w; entries = xs }) m ran e)
        | inr e ↦ omega (arith, none_made s (take n xs ++ ys) m h e, returned_joined (take n xs) ys m)
      ];
}

-- the given steps were made after the first n live ones: the new journal is one that a session may
-- have, with room for its undone makings, and its state is the switched one
pub record IsExchanged (n : ℕ) (given : List Entry) (old new : Journal) (room : ℕ → ℕ) : Type 0 where
  pub session : IsSession new room
  pub state : state_of new ≡ switch (state_of old) n (events given)

pub exchanged : (n : ℕ) (old new : Journal) (given again steps : List Entry) (w : World) (room : ℕ → ℕ) → new.start ≡ old.start → IsRun old → n ≤ length old.live → n + length given ≤ MOST_STEPS
    → steps ≡ old.live → ((start : World) → LeadsTo start old.world steps → LeadsTo start w (take n steps)) → again ≡ given
    → run w (events again) ≡ Ok (record { world = new.world; entries = again }) → IsSwitched n given old new → IsExchanged n given old new room
exchanged n old new given again steps w room start runs within few all back_to same goes is =
    let s = old.start in
    let kept = take n old.live in
    let leads : LeadsTo s w kept = subst (λ (xs : List Entry). LeadsTo s w (take n xs)) all (back_to s (live_lead old steps runs all)) in
    let ran : run w (events given) ≡ Ok (record { world = new.world; entries = given }) =
    subst (λ (xs : List Entry). run w (events xs) ≡ Ok (record { world = new.world; entries = xs })) same goes in
    let joined = runs_joined s w new.world kept given leads.ran ran in
    record {
      session = grind (arith, length-append, length-take-le);
      state = grind (arith, map-append, take-map);
    }

-- after undoing all but the first n live steps, the given entries run on and have room for their
-- makings
pub may_exchange : (n : ℕ) (old : Journal) (given again steps : List Entry) (w : World) (before after : ℕ → ℕ) → IsRun old → steps ≡ old.live
    → ((start : World) → LeadsTo start old.world steps → LeadsTo start w (take n steps)) → ((m : ℕ) → before m + room_returned_by (drop n steps) m ≤ after m)
    → IsRunFrom old.start (take n old.live ++ given) → ActorsHaveRoom old.world given (room_after_undoing (drop n old.live) before) → again ≡ given
    → IsRunFrom w again × HasRoomToRedo again after
may_exchange n old given again steps w before after runs all back_to gives run_on makings same =
    let s = old.start in
    let kept = take n old.live in
    let leads : LeadsTo s w kept = subst (λ (xs : List Entry). LeadsTo s w (take n xs)) all (back_to s (live_lead old steps runs all)) in
    let has = room_for_all s old.world old.live given (room_after_undoing (drop n old.live) before) runs.live_ran n run_on makings in
    let gone = ap (λ (xs : List Entry). drop n xs) all in (
      subst (λ (xs : List Entry). IsRunFrom w xs) (sym same) (rest_runs_on s w kept given leads.ran run_on),
      subst (λ (xs : List Entry). HasRoomToRedo xs after) (sym same)
          (record { at = λ m. omega (arith, has.at m, gives m, ap (λ (xs : List Entry). room_returned_by xs m) gone) }),
    )

-- room made for the first actors, and then for one more, is room for all of these
pub room_for_one_more : (xs : List Entry) (number : ℕ) (before after : ℕ → ℕ) → ((n : ℕ) → n < number → room_returned_by xs (suc n) ≤ before (suc n))
    → ((m : ℕ) → before m ≤ after m) → room_returned_by xs (number + 1) ≤ after (number + 1)
    → (n : ℕ) → n < number + 1 → room_returned_by xs (suc n) ≤ after (suc n)
room_for_one_more xs number before after had more one n h = grind arith

pub room_for_actors : (w v : World) (xs : List Entry) (number : ℕ) (room : ℕ → ℕ) → v ≡ w
    → ((n : ℕ) → n < number → room_returned_by xs (suc n) ≤ room (suc n))
    → (IsSome (w.actor zero) → ⊥) → ((n : ℕ) → IsSome (w.actor (suc n)) → n < number) → ActorsHaveRoom v xs room
room_for_actors w v xs number room same made none count =
    subst (λ (u : World). ActorsHaveRoom u xs room) (sym same) (record { at = each })
  where
    each : (m : ℕ) → IsSome (w.actor m) → room_returned_by xs m ≤ room m
    each zero there = absurd (none there)
    each (suc n) there = made n (count n there)

-- Counting the makings of each actor

-- an entry that isn't a making doesn't change the number of makings
pub no_making_counted : (xs : List Entry) (i m count : ℕ) (d : Entry) → i < length xs → made_segment (get_or xs i d) ≡ None
    → count ≡ room_returned_by (take i xs) m → count ≡ room_returned_by (take (i + 1) xs) m
no_making_counted xs i m count d h none counted = grind (arith, returned_next xs i m d h)

-- a making adds one to its maker's number
pub making_counted : (counts : List ℕ) (xs : List Entry) (i k m : ℕ) (d : Entry) (s : SegName) → i < length xs → made_segment (get_or xs i d) ≡ Some s → k ≡ s.maker → k < length counts
    → get_or counts m 0 ≡ room_returned_by (take i xs) m → get_or (set counts k (get_or counts k 0 + 1)) m 0 ≡ room_returned_by (take (i + 1) xs) m
making_counted counts xs i k m d s h makes its within counted = grind (arith, common_steps, returned_next xs i m d h, returned_made (get_or xs i d).place (get_or xs i d).old_content m s makes)

-- a making among the dropped entries takes one off its maker's number
pub making_missed : (counts : List ℕ) (xs : List Entry) (i k m base : ℕ) (x : Entry) (s : SegName) → i < length xs → x ≡ get_or xs i x → made_segment x ≡ Some s → k ≡ s.maker
    → k < length counts → get_or counts m 0 ≡ base - room_returned_by (take i xs) m
    → get_or (set counts k (get_or counts k 0 - 1)) m 0 ≡ base - room_returned_by (take (i + 1) xs) m
making_missed counts xs i k m base x s h here makes its within counted = grind (arith, common_steps, returned_next xs i m x h, returned_made x.place x.old_content m s makes)

-- an entry that isn't a making takes nothing off
pub no_making_missed : (xs : List Entry) (i m base count : ℕ) (x : Entry) → i < length xs → x ≡ get_or xs i x → made_segment x ≡ None
    → count ≡ base - room_returned_by (take i xs) m → count ≡ base - room_returned_by (take (i + 1) xs) m
no_making_missed xs i m base count x h here none counted = grind (arith, returned_next xs i m x h)
