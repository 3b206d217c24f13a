-- Ascending positions, and what they become when one is moved. Searches among them are stated in
-- words of std: `find (nat_lt k)` gives the first position above k, `before_first (nat_lt k)` the
-- positions before that, and `position_or_len (nat_lt k)` their number.
use Rattle.std.specs.Prelude.{◌≡◌, ℕ, suc, ◌-◌, ◌≤◌, ◌==◌, nat_lt, nat_le, Bool, if◌then◌else◌, List, [], ◌∷◌, ◌++◌, map, min, max, Option, Some, None}
use Rattle.std.specs.List.{list_any}

-- each position is greater than the one before it, and the first is at least n
abbrev pub AscendsFrom : ℕ → List ℕ → Type 0
AscendsFrom n [] = Unit {0}
AscendsFrom n (p ∷ ps) = (n ≤ p) × AscendsFrom (suc p) ps

-- each position is greater than the one before it
abbrev pub IsAscending : List ℕ → Type 0
IsAscending ps = AscendsFrom 0 ps

-- what position p becomes when the element at position k is moved to n: k becomes n, the positions
-- above k up to n become one less, and the others stay
abbrev pub moved_position : ℕ → ℕ → ℕ → ℕ
moved_position k n p = if nat_lt p k then p else (if p == k then n else (if nat_le p n then p - 1 else p))

-- whether p is among these positions
abbrev pub contains : List ℕ → ℕ → Bool
contains ps p = list_any (λ q. q == p) ps

-- the new positions ascend, and are just what the old ones become when k is moved to n
unfoldable pub IsMoved : ℕ → ℕ → List ℕ → List ℕ → Type 0
IsMoved k n old new = IsAscending new × ((p : ℕ) → contains new (moved_position k n p) ≡ contains old p)

-- each position, one less, where 0 stays 0; but if the first is k, it goes to the end and becomes n
abbrev pub lowered_and_rotated : ℕ → ℕ → List ℕ → List ℕ
lowered_and_rotated k n [] = []
lowered_and_rotated k n (p ∷ ps) = if p == k then map (λ q. q - 1) ps ++ n ∷ [] else map (λ q. q - 1) (p ∷ ps)

-- the greater of two positions, or the one that is there; none if neither is
abbrev pub later : Option ℕ → Option ℕ → Option ℕ
later None o = o
later (Some m) None = Some m
later (Some m) (Some n) = Some (max m n)

-- the lesser of two positions, or the one that is there; none if neither is
abbrev pub earlier : Option ℕ → Option ℕ → Option ℕ
earlier None o = o
earlier (Some m) None = Some m
earlier (Some m) (Some n) = Some (min m n)
