-- Lists of which one was made of the other, element by element.
use Rattle.rd_segments.proofs.Prelude.{◌≡◌, ℕ, zero, suc, ◌+◌, ◌<◌, List, [], ◌∷◌, ◌++◌, length, get_or, take, Option, Some, None, slice_get, SegName, ListOf, by_name, element_in}
use Rattle.std.specs.List.{AllZip}
use Rattle.std.proofs.lemmas.List.{take_more}
use Rattle.std.proofs.lemmas.Slice.Zip.{all_zipped_more}

module _ {X Y : Type 0} (R : X → Y → Type 0) where
  -- one more element was made of the next one
  pub one_more_made : (xs : List X) (i : ℕ) (x : X) (ys zs : List Y) (y : Y) → i < length xs → x ≡ get_or xs i x → zs ≡ ys ++ y ∷ []
      → AllZip R (take i xs) ys → R x y → AllZip R (take (i + 1) xs) zs
  one_more_made xs i x ys zs y within here pushed so_far made = rw (pushed, take_more xs i x within, ← here) (all_zipped_more R (take i xs) ys x y so_far made)

  module _ {A : Type 0} (f : Option Y → A) (g : Option X → A) (none : f None ≡ g None) (each : (x : X) (y : Y) → R x y → f (Some y) ≡ g (Some x)) where
    -- if f finds in what was made of an element what g finds in the element, they agree at each
    -- index
    agree : (xs : List X) (ys : List Y) → AllZip R xs ys → (k : ℕ) → f (slice_get ys k) ≡ g (slice_get xs k)
    agree [] [] h k = none
    agree (x ∷ xs) (y ∷ ys) h zero = each x y h.0
    agree (x ∷ xs) (y ∷ ys) h (suc k) = agree xs ys h.1 k
    agree _ _ h k = absurd h

-- and so at each name, in the makers' lists
pub agree_by_name : {X Y A : Type 0} (R : X → Y → Type 0) (f : Option Y → A) (g : Option X → A) → f None ≡ g None → ((x : X) (y : Y) → R x y → f (Some y) ≡ g (Some x))
    → (xs : List (ListOf X)) (ys : List (ListOf Y)) → AllZip (λ list its. AllZip R list.items its.items) xs ys → (s : SegName) → f (by_name ys s) ≡ g (by_name xs s)
agree_by_name R f g none each xs ys h s =
    agree _ (λ o. f (element_in o s.n)) (λ o. g (element_in o s.n)) none (λ list its all. agree R f g none each list.items its.items all s.n) xs ys h s.maker
