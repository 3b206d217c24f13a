-- Undoing a journal's last live steps, redoing its first undone ones, and how the state changes.
use Rattle.rd_journal.proofs.Prelude.{run_joined, ◌≡◌, ℕ, ◌+◌, ◌-◌, ◌≤◌, sym, ◌∙◌, ap, subst, List, ◌++◌, length, take, drop, Ok, arith, length-append, le-ltb, cond-false, append_assoc, map-append, length-map, take-map, drop-map, take-append-drop, World, run, Entry, runs_to, Journal, events, IsRun, IsRunFrom, LeadsTo, IsSession, IsMovedBack, IsMovedForward, room_returned_by, HasRoomToRedo, state_of, back, forward}
use Rattle.rd_journal.proofs.Runs.{runs_joined, runs_since, live_lead}
use Rattle.rd_journal.proofs.Switching.{returned_joined, rest_runs_on}

-- What is left is a session

-- the live entries followed by the undone ones are those of one run from the start
pub whole_run : (j : Journal) → IsRun j → IsRunFrom j.start (j.live ++ j.undone)
whole_run j runs =
    let on = runs_to j.world j.undone runs.undone_run_on in
    grind (arith, map-append, run_joined j.start (events j.live) (events j.undone) (record { world = j.world; entries = j.live }) (record { world = on.last; entries = j.undone }) runs.live_ran on.runs)

-- a session after n steps back, if the other live steps lead from the start to the new world
pub session_back : (n left : ℕ) (old new : Journal) (steps : List Entry) (before after : ℕ → ℕ) → new.start ≡ old.start → n ≤ length old.live → IsSession old before
    → steps ≡ old.live → left ≡ length old.live - n → ((start : World) → LeadsTo start old.world steps → LeadsTo start new.world (take left steps))
    → ((m : ℕ) → before m + room_returned_by (drop left steps) m ≤ after m) → IsMovedBack n old new → IsSession new after
session_back n left old new steps before after start within session all many leads gives moved =
    let s = old.start in
    let k = length old.live - n in
    let l = take k old.live in
    let led : LeadsTo s new.world l =
    subst (λ (xs : List Entry). LeadsTo s new.world xs) (λ i. take (many i) (all i)) (leads s (live_lead old steps session.runs all)) in
    let cut : l ++ new.undone ≡ old.live ++ old.undone = grind (arith, append_assoc l (drop k old.live) old.undone, take-append-drop k old.live) in
    let gone : drop left steps ≡ drop k old.live = λ i. drop (many i) (all i) in
    record {
      few = omega (arith, session.few, ap length moved.live, ap length cut, length-append l new.undone, length-append old.live old.undone);
      runs =
          runs_since s new start led.well_formed
          (subst (λ (xs : List Entry). run s (events xs) ≡ Ok (record { world = new.world; entries = xs })) (sym moved.live) led.ran)
          (rest_runs_on s new.world l new.undone led.ran (subst (λ (xs : List Entry). IsRunFrom s xs) (sym cut) (whole_run old session.runs)));
      has_room =
          subst (λ (xs : List Entry). HasRoomToRedo xs after) (sym moved.undone)
          (record { at = λ m. omega (arith, session.has_room.at m, gives m, ap (λ (xs : List Entry). room_returned_by xs m) gone, returned_joined (drop k old.live) old.undone m) });
    }

-- a session after n steps forward, if these lead from the old world to the new one
pub session_forward : (n : ℕ) (old new : Journal) (steps : List Entry) (before after : ℕ → ℕ) → new.start ≡ old.start → IsSession old before → steps ≡ take n old.undone
    → run old.world (events steps) ≡ Ok (record { world = new.world; entries = steps }) → ((rest : List Entry) → HasRoomToRedo (steps ++ rest) before → HasRoomToRedo rest after)
    → IsMovedForward n old new → IsSession new after
session_forward n old new steps before after start session first goes has moved =
    let s = old.start in
    let live : new.live ≡ old.live ++ steps = moved.live ∙ ap (λ (xs : List Entry). old.live ++ xs) (sym first) in
    let cut : steps ++ new.undone ≡ old.undone = (λ i. first i ++ moved.undone i) ∙ take-append-drop n old.undone in
    record {
      few = omega (arith, session.few, ap length cut, ap length live, length-append steps new.undone, length-append old.live steps);
      runs =
          runs_since s new start session.runs.well_formed
          (subst (λ (xs : List Entry). run s (events xs) ≡ Ok (record { world = new.world; entries = xs })) (sym live)
          (runs_joined s old.world new.world old.live steps session.runs.live_ran goes))
          (rest_runs_on old.world new.world steps new.undone goes (subst (λ (xs : List Entry). IsRunFrom old.world xs) (sym cut) session.runs.undone_run_on));
      has_room = has new.undone (subst (λ (xs : List Entry). HasRoomToRedo xs before) (sym cut) session.has_room);
    }

-- if there is room for the makings among some entries, there is for those among the first ones
pub room_first : (n : ℕ) (xs : List Entry) (room : ℕ → ℕ) → HasRoomToRedo xs room → HasRoomToRedo (take n xs) room
room_first n xs room has = record {
  at = λ m. omega (arith, returned_joined (take n xs) (drop n xs) m, ap (λ (ys : List Entry). room_returned_by ys m) (take-append-drop n xs), has.at m);
}

-- The state

pub state_back : (n : ℕ) (old new : Journal) → n ≤ length old.live → new.start ≡ old.start → IsMovedBack n old new
    → back (state_of old) n ≡ Ok (state_of new)
state_back n old new within start moved = grind (arith, length-map, take-map, map-append, drop-map, le-ltb, cond-false)

pub state_forward : (n : ℕ) (old new : Journal) → n ≤ length old.undone → new.start ≡ old.start → IsMovedForward n old new
    → forward (state_of old) n ≡ Ok (state_of new)
state_forward n old new within start moved = grind (arith, length-map, map-append, take-map, drop-map, le-ltb, cond-false)
