-- Elements of a list by their numbers, from 1: actors, events, entries and calls alike.
use Rattle.std.specs.Prelude.{ℕ, zero, suc, ◌-◌, List, ◌++◌, take, drop, Option, None, slice_get}

-- the element of a list with this number, from 1, if there is one
abbrev pub numbered : {X : Type 0} → List X → ℕ → Option X
numbered xs zero = None
numbered xs (suc i) = slice_get xs i

-- the list without its element of this number, from 1; the whole list if no element has the number
abbrev pub without : {X : Type 0} → List X → ℕ → List X
without xs k = take (k - 1) xs ++ drop k xs
