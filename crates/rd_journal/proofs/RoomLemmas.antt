-- The room that redoing needs, of the makers and in the index of dependants. The index counts room
-- for each actor, place and segment, so the order of entries doesn't matter.
use Rattle.rd_journal.proofs.Prelude.{◌≡◌, true, arith, ℕ, ◌+◌, ◌≤◌, List, ◌∷◌, Ok, [], ◌++◌, World, step, Event, Entry, makes_segment, room_used, room_returned, room_used_returned, HasRoomToRedo, DependIndex, is_listed_for, GivesRoom, HasRoomFor}
use Rattle.rd_depend.proofs.IndexPositions.{count_by-append, count_by-cons}

-- undoing a step gives back the room that redoing it needs
pub given_back : (xs ys : List Entry) (x : Entry) (before after : ℕ → ℕ) → ys ≡ x ∷ xs → HasRoomToRedo xs before
    → ((m : ℕ) → after m ≡ before m + room_returned x.place x.old_content m) → HasRoomToRedo ys after
given_back xs ys x before after front has gives = grind arith

-- there is room for a making that is redone
pub redo_room : (w v : World) (ys zs : List Entry) (x : Entry) (room : ℕ → ℕ) → ys ≡ x ∷ zs
    → step w x.event ≡ Ok (record { world = v; entry = x }) → HasRoomToRedo ys room → makes_segment w x.event ≡ true → 1 ≤ room x.event.actor
redo_room w v ys zs x room first goes has makes = grind arith

-- after a redo there is room for the other steps
pub redone_room : (w v : World) (ys zs : List Entry) (x : Entry) (before after : ℕ → ℕ) → ys ≡ x ∷ zs
    → step w x.event ≡ Ok (record { world = v; entry = x }) → HasRoomToRedo ys before
    → ((m : ℕ) → before m ≤ after m + room_used (makes_segment w x.event) x.event.actor m) → HasRoomToRedo zs after
redone_room w v ys zs x before after first goes has left = grind arith

-- undoing a step that was just made gives back the room that it took
pub stepped_back : (w v : World) (e : Event) (x : Entry) (before stepped after : ℕ → ℕ) → step w e ≡ Ok (record { world = v; entry = x })
    → ((m : ℕ) → before m ≤ stepped m + room_used (makes_segment w e) e.actor m) → ((m : ℕ) → after m ≡ stepped m + room_returned x.place x.old_content m)
    → (m : ℕ) → before m ≤ after m
stepped_back w v e x before stepped after goes took gives m = omega (arith, room_used_returned w e (record { world = v; entry = x }) m goes, took m, gives m)

-- there is room for no entries
pub fits_none : (index : DependIndex) → HasRoomFor index []
fits_none index = record { lists = λ t. omega arith }

-- there is room for entries that gave their room back, together with others for which there was
-- room
pub fits_back : (old new : DependIndex) (gone rest : List Entry) → GivesRoom old new gone → HasRoomFor old rest → HasRoomFor new (gone ++ rest)
fits_back old new gone rest gives has = record { lists = λ t. omega (arith, count_by-append (is_listed_for t) gone rest, has.lists t, gives t) }

-- if there is room for entries and others, there is for these
pub fits_first : (index : DependIndex) (xs ys : List Entry) → HasRoomFor index (xs ++ ys) → HasRoomFor index xs
fits_first index xs ys has = record { lists = λ t. omega (arith, count_by-append (is_listed_for t) xs ys, has.lists t) }

-- if there is room for an entry and others, there is for the entry
pub fits_one : (index : DependIndex) (x : Entry) (rest : List Entry) → HasRoomFor index (x ∷ rest) → HasRoomFor index (x ∷ [])
fits_one index x rest has = record { lists = λ t. omega (arith, count_by-cons (is_listed_for t) x rest, has.lists t) }

-- room for entries with one between them is room with that one in front
pub fits_between : (index : DependIndex) (xs ys : List Entry) (x : Entry) → HasRoomFor index (xs ++ x ∷ ys) → HasRoomFor index (x ∷ (xs ++ ys))
fits_between index xs ys x has = record { lists = λ t. omega (arith, count_by-append (is_listed_for t), count_by-cons (is_listed_for t), has.lists t) }

-- room for entries is room for them in another order
pub fits_turned : (index : DependIndex) (xs ys rest : List Entry) → HasRoomFor index (xs ++ (ys ++ rest)) → HasRoomFor index (ys ++ (xs ++ rest))
fits_turned index xs ys rest has = record { lists = λ t. omega (arith, count_by-append (is_listed_for t), has.lists t) }
