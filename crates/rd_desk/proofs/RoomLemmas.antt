-- Loops that take the elements of one list, and put an element for each into a list with room for
-- all.
use Rattle.rd_desk.proofs.Prelude.{◌≡◌, ℕ, ◌+◌, ◌<◌, ◌≤◌, ◌++◌, List, [], ◌∷◌, length, map, map-append, refl, arith, length_push}

-- while not all elements are taken, the other list has room for one more
pub room_left : (taken all len cap : ℕ) → taken < all → len ≡ taken → all ≤ cap → len < cap
room_left taken all len cap more is room = omega arith

-- it stays as long as the list of the elements taken
pub one_each : {X : Type 0} (taken : List X) (x : X) (old new : ℕ) → new ≡ old + 1 → old ≡ length taken → new ≡ length (taken ++ x ∷ [])
one_each taken x old new more is = let n = length_push taken x in omega arith

-- a list that has f of each element taken gets f of one more
pub mapped_more : {X Y : Type 0} (f : X → Y) (taken : List X) (x : X) (y : Y) (old new : List Y) → new ≡ old ++ y ∷ [] → old ≡ map f taken → y ≡ f x → new ≡ map f (taken ++ x ∷ [])
mapped_more f taken x y old new more is e = rw (more, is, e, map-append) refl
