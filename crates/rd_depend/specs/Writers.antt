-- The step that last wrote a place, as a position in a list, counted from 1.
use Rattle.std.specs.Prelude.{ℕ, suc, Bool, if◌then◌else◌, List, [], ◌∷◌, Option, Some, None}
use Rattle.rd_step.specs.Prelude.{Place, some_overlap, written}
use Rattle.rd_step.specs.declared.entries.Entry.{Entry}

-- a position found in the rest of a list, as a position in the whole list. If none was found, it is
-- position 1 if the first element passes (`first`), and else none
abbrev pub one_further : Bool → Option ℕ → Option ℕ
one_further first (Some n) = Some (suc n)
one_further first None = if first then Some 1 else None

-- the last position whose element passes the test, from 1; none if no element passes
abbrev pub last_position : {X : Type 0} → (X → Bool) → List X → Option ℕ
last_position test [] = None
last_position test (x ∷ xs) = one_further (test x) (last_position test xs)

-- whether a step wrote this place, or one of the places that it names
abbrev pub writes_to : Place → Entry → Bool
writes_to place x = some_overlap (written x.place x.wrote) (Some place)
