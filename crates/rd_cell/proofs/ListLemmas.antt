-- Reading a list: within its length, and after a write.
use Rattle.std.proofs.Math.Seq.{get_or-append_seam}
use Rattle.rd_cell.proofs.Prelude.{◌≡◌, ◌≢◌, ℕ, suc, ◌<◌, ◌≤◌, arith, ◌++◌, Some, None, is_some, true, List, [], ◌∷◌, length, set, take, slice_get, slice_get_past, get_or-set_same, slice_get_cases, length-set, length-append, length-take, common_steps}

-- every index below a list's length has an element
pub slice_get-is_some : {X : Type 0} (xs : List X) (i : ℕ) → i < length xs → is_some (slice_get xs i) ≡ true
slice_get-is_some xs i h = grind (arith, slice_get_cases)

-- conversely, an index that has an element is below the list's length
pub is_some-slice_get : {X : Type 0} (xs : List X) (i : ℕ) → is_some (slice_get xs i) ≡ true → i < length xs
is_some-slice_get xs i h = grind (arith, slice_get_cases)

-- the written position has the new element
pub slice_get-set_same : {X : Type 0} (xs : List X) (i : ℕ) (x : X) → i < length xs → slice_get (set xs i x) i ≡ Some x
slice_get-set_same xs i x h = grind (arith, slice_get_cases, get_or-set_same, length-set)

-- every other position keeps its element
pub slice_get-set_other : {X : Type 0} (xs : List X) (i j : ℕ) (x : X) → j ≢ i → slice_get (set xs i x) j ≡ slice_get xs j
slice_get-set_other xs i j x ne = grind (arith, common_steps, slice_get_cases)

-- after a push, the old length is the position of the new element
pub slice_get-push_same : {X : Type 0} (xs : List X) (x : X) → slice_get (xs ++ x ∷ []) (length xs) ≡ Some x
slice_get-push_same xs x = grind (arith, slice_get_cases, get_or-append_seam, length-append)

-- a push leaves what is read at every other position
pub slice_get-push_other : {X : Type 0} (xs : List X) (x : X) (k : ℕ) → k ≢ length xs → slice_get (xs ++ x ∷ []) k ≡ slice_get xs k
slice_get-push_other xs x k ne = grind (arith, common_steps, slice_get_cases)

-- the first n elements have no element at index n
pub slice_get-take_same : {X : Type 0} (xs : List X) (n : ℕ) → slice_get (take n xs) n ≡ None
slice_get-take_same xs n = grind (arith, slice_get_past, length-take)

-- taking the first n elements leaves what is read at every index but n, if it drops at most one
-- element
pub slice_get-take_other : {X : Type 0} (xs : List X) (n k : ℕ) → length xs ≤ suc n → k ≢ n → slice_get (take n xs) k ≡ slice_get xs k
slice_get-take_other xs n k few ne = grind (arith, common_steps, slice_get_cases)
