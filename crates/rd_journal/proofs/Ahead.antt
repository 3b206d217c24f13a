-- A journal in which only the first of the steps ahead are undone, beside the one in which all are.
use Rattle.rd_journal.proofs.Prelude.{◌≡◌, ℕ, suc, ◌+◌, ◌-◌, ◌≤◌, sym, ◌∙◌, ap, arith, List, [], ◌∷◌, ◌++◌, length, take, drop, length-drop, length-take, length-take-le, map-append, append_assoc, take-append-drop, take-take, drop-take, World, room, and_then, Event, Entry, first_step, Journal, events, IsRunFrom, IsSession, IsMovedBack, IsMovedForward, IsUndoneAlone, journal, Session}
use Rattle.rd_journal.proofs.EntryLemmas.{take_over}
use Rattle.rd_journal.proofs.Walks.{room_first}

-- The first steps of a run

-- the first steps of a run are a run
pub first_run : (n : ℕ) (w : World) (xs : List Entry) → IsRunFrom w xs → IsRunFrom w (take n xs)
first_run (suc n) w (x ∷ xs) h =
    let first = first_step w x xs h in
    grind (arith, and_then, first_run n first.after xs first.rest)
first_run n w xs h = grind arith

-- The session

-- the journal with only the first n of the undone entries
abbrev pub with_undone : ℕ → Journal → Journal
with_undone n j = record { start = j.start; world = j.world; live = j.live; undone = take n j.undone }

pub session_undone : (n : ℕ) (j : Journal) (room : ℕ → ℕ) → IsSession j room → IsSession (with_undone n j) room
session_undone n j room session = grind (arith, length-take, first_run, room_first)

pub is_session : {R : ℕ} (s : Session R) → IsSession (journal s) (room s.world)
is_session s = session_undone s.undone _ (room s.world) s.kept

-- Moves, where n of the steps ahead are undone

pub back_undone : (n k : ℕ) (old new : Journal) → k ≤ length old.live → IsMovedBack k old new → IsMovedBack k (with_undone n old) (with_undone (n + k) new)
back_undone n k old new few moved = grind (arith, length-drop, take_over)

pub forward_undone : (n k : ℕ) (old new : Journal) → k ≤ n → IsMovedForward k old new → IsMovedForward k (with_undone n old) (with_undone (n - k) new)
forward_undone n k old new enough moved =
    let all : n ≡ k + (n - k) = omega arith in
    record { live = grind (arith, take-take); undone = grind (arith, drop-take) }

pub alone_undone : (n k : ℕ) (old new : Journal) → 1 ≤ k → k ≤ length old.live → IsUndoneAlone k old new → IsUndoneAlone k (with_undone n old) (with_undone (n + 1) new)
alone_undone n k old new some within moved = grind (arith, length-take-le, length-drop, take_over)

-- if no step is ahead, none is undone
pub none_taken : (n : ℕ) (xs : List Entry) → xs ≡ [] → take n xs ≡ []
none_taken n xs none = grind arith

-- The track

-- the events of the live steps and, after them, of the undone ones
abbrev pub track_of : Journal → List Event
track_of j = events j.live ++ events j.undone

pub track_back : (n : ℕ) (old new : Journal) → IsMovedBack n old new → track_of new ≡ track_of old
track_back n old new moved =
    let k = length old.live - n in
    let event = λ (x : Entry). x.event in
    let same : new.live ++ new.undone ≡ old.live ++ old.undone =
    grind (arith, append_assoc (take k old.live) (drop k old.live) old.undone, take-append-drop k old.live) in
    sym (map-append event new.live new.undone) ∙ ap events same ∙ map-append event old.live old.undone
