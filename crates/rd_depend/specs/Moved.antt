-- A list with one element moved.
use Rattle.std.specs.Prelude.{ℕ, ◌-◌, List, ◌++◌, take, drop}

-- the list with its k-th element, counted from 1, moved after the following ones up to the n-th,
-- for k from 1 to n
abbrev pub moved_to : {X : Type 0} → List X → ℕ → ℕ → List X
moved_to es k n = (take (k - 1) (take n es) ++ drop k (take n es)) ++ (take 1 (drop (k - 1) (take n es)) ++ drop n es)
