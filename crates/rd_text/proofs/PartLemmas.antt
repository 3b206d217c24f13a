-- A loop over the parts of a text: the chain proof comes last, since its closure is known from the
-- loop alone.
use Rattle.rd_text.proofs.Prelude.{◌≡◌, ◌<◌, ◌≤◌, ℕ, List, ◌∷◌, map, length, drop, get_or, Bor, Option, Some, None, arith, YieldsList, YieldsList-turn, YieldsList-end}
use Rattle.std.specs.Iterator.{Yields}

-- if one more part is given, there are more parts than were given before
pub more_parts : {S A B : Type 0} {steps : S → Option A → S → Type 0} {v : A → B} {s : S} {all : List B} (xs : List A) (t : S) → Yields steps s xs t → (r : Option A) (u : S) (x : A) → r ≡ Some x → steps t r u → YieldsList steps v s all → length xs < length all
more_parts xs t y r u x is p e = (YieldsList-turn e xs t y r u x is p).0

-- if no more part is given, all parts were given
pub all_parts : {S A B : Type 0} {steps : S → Option A → S → Type 0} {v : A → B} {s : S} {all : List B} (xs : List A) (t : S) → Yields steps s xs t → (r : Option A) (u : S) → r ≡ None → steps t r u → YieldsList steps v s all → map v xs ≡ all
all_parts xs t y r u is p e = (YieldsList-end e xs t y r u is p).0

-- the first part and the others are all parts
pub first_and_others : {text : List (List ℕ)} (items kept : List (Bor (List ℕ))) (d : Bor (List ℕ)) → 1 ≤ length kept → kept ≡ items → map (λ part. part.now) items ≡ text → (get_or kept 0 d).now ∷ map (λ part. part.now) (drop 1 kept) ≡ text
first_and_others items kept d some same is = grind arith
