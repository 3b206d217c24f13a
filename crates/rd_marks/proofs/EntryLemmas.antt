-- The entries of a session's live steps, and what switching to entries of a run leaves.
use Rattle.rd_marks.proofs.Prelude.{◌≡◌, ℕ, zero, suc, drop, ◌≤◌, refl, List, [], ◌∷◌, ◌++◌, length, take, ◌⊎◌, inl, Result, Ok, Err, OnOk, IfErr, arith, ahead, capacity, room, index, LacksRoomForEvents, Session, state, journal, Refusal, World, run, Event, take-append-drop, drop-map, length-map, Entry, State, state_of, switch, Journal, AreEntriesOfRun, CanRun, events, run_entries, IsRunFrom, LacksRoomToSwitch, first_step, runs_to}
use Rattle.rd_cell.specs.declared.refusal.Refusal.TheVariants as refusal

-- A start and its events determine the entries of a run

-- if the events of two runs from one world begin alike, so do their entries
pub begin_alike : (n : ℕ) (w : World) (xs ys : List Entry) → run_entries (run w (events xs)) ≡ Ok xs → run_entries (run w (events ys)) ≡ Ok ys
    → take n (events xs) ≡ take n (events ys) → take n xs ≡ take n ys
begin_alike zero w xs ys p q h = refl
begin_alike (suc n) w [] [] p q h = refl
begin_alike (suc n) w [] (y ∷ ys) p q h = cc
begin_alike (suc n) w (x ∷ xs) [] p q h = cc
begin_alike (suc n) w (x ∷ xs) (y ∷ ys) p q h = grind (arith, first_step w x xs p, first_step w y ys q, begin_alike n (first_step w y ys q).after xs ys)

-- the events of the entries of a run can run from its start
pub events_can_run : (w : World) (xs : List Entry) → AreEntriesOfRun w xs → CanRun w (events xs)
events_can_run w xs h = record { few = omega (arith, h.few, length-map xs (λ (x : Entry). x.event)); runs = grind (arith, runs_to w xs h.ran) }

-- if n live events agree with a run's, they and the run's later events are all events of the run
pub joined_events : (n : ℕ) (es : List Event) (ys : List Entry) → take n es ≡ take n (events ys) → take n es ++ events (drop n ys) ≡ events ys
joined_events n es ys h = cc (drop-map (λ (x : Entry). x.event) n ys, take-append-drop n (events ys))

-- after a switch to the entries of a run, just its events are live, and none is undone
pub switched : {X : Type 0} (r : Result X Refusal) (s t : State) (n : ℕ) (zs ys : List Entry) → zs ≡ drop n ys → take n s.live ≡ take n (events ys)
    → OnOk r (t ≡ switch s n (events zs)) → OnOk r (t ≡ record { start = s.start; live = events ys; undone = [] })
switched r s t n zs ys given h k = grind (arith, joined_events)

-- the entries that a switch keeps and those that it gets are a run, as its contract requires
pub may_switch : (j : Journal) (n : ℕ) (zs ys : List Entry) → zs ≡ drop n ys → IsRunFrom j.start j.live → AreEntriesOfRun j.start ys
    → take n (state_of j).live ≡ take n (events ys) → IsRunFrom j.start (take n j.live ++ zs)
may_switch j n zs ys given ran kept h = grind (arith, kept.ran, take-append-drop, begin_alike n j.start j.live ys ran kept.ran)

-- a session that lacks room for a switch lacks room for going to the events that the switch makes
-- live
pub lacks_room_to_go : {R : ℕ} {X : Type 0} (r : Result X Refusal) (s : Session R) (n : ℕ) (given : List Entry) (es : List Event) (P : Type 0) → take n (state s).live ++ events given ≡ es
    → n ≤ length (journal s).live → IsRunFrom (journal s).start (take n (journal s).live ++ given)
    → IfErr r (λ e. (e ≡ refusal.NoMemory) × LacksRoomToSwitch n (journal s) (ahead s) given (capacity s) (room s) (index s)) → IfErr r (λ e. (e ≡ refusal.NoMemory) × (LacksRoomForEvents s es ⊎ P))
lacks_room_to_go (Ok x) s n given es P all within ran h = tt
lacks_room_to_go (Err e) s n given es P all within ran h =
    (h.0, inl (record { kept = n; given = given; within = within; ran = ran; all = all; lacks = h.1 }))
