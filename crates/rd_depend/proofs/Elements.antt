-- A list around one of its elements, and what holds of all elements of a list.
use Rattle.rd_depend.proofs.Prelude.{AllByRecursion, ◌≡◌, ℕ, suc, List, [], ◌∷◌, ◌++◌, take, drop, map, slice_get, Some, refl, sym, ap, ◌∙◌, arith, take-append-drop}

-- A list around its element of index n

pub take-element : {X : Type 0} (xs : List X) (n : ℕ) (x : X) → slice_get xs n ≡ Some x → take (suc n) xs ≡ take n xs ++ x ∷ []
take-element {X} (y ∷ ys) (suc n) x h = ap (λ (l : List X). y ∷ l) (take-element ys n x h)
take-element xs n x h = grind arith

pub drop-element : {X : Type 0} (xs : List X) (n : ℕ) (x : X) → slice_get xs n ≡ Some x → drop n xs ≡ x ∷ drop (suc n) xs
drop-element (y ∷ ys) (suc n) x h = drop-element ys n x h
drop-element xs n x h = grind arith

pub around-element : {X : Type 0} (xs : List X) (n : ℕ) (x : X) → slice_get xs n ≡ Some x → xs ≡ take n xs ++ x ∷ drop (suc n) xs
around-element {X} xs n x h = sym (take-append-drop n xs) ∙ ap (λ (l : List X). take n xs ++ l) (drop-element xs n x h)

-- What holds of all elements

pub all-append : {X : Type 0} (P : X → Type 0) (xs ys : List X) → AllByRecursion P xs → AllByRecursion P ys → AllByRecursion P (xs ++ ys)
all-append P [] ys h g = g
all-append P (x ∷ xs) ys h g = (h.0, all-append P xs ys h.1 g)

pub all-parts : {X : Type 0} (P : X → Type 0) (xs ys : List X) → AllByRecursion P (xs ++ ys) → AllByRecursion P xs × AllByRecursion P ys
all-parts P [] ys h = (tt, h)
all-parts P (x ∷ xs) ys h = let rest = all-parts P xs ys h.1 in ((h.0, rest.0), rest.1)

pub all-weaker : {X : Type 0} (P Q : X → Type 0) (xs : List X) → ((x : X) → P x → Q x) → AllByRecursion P xs → AllByRecursion Q xs
all-weaker P Q [] f h = tt
all-weaker P Q (x ∷ xs) f h = (f x h.0, all-weaker P Q xs f h.1)

-- a list of which nothing is made is empty
pub map-nil : {X Y : Type 0} (f : X → Y) (xs : List X) → map f xs ≡ [] → xs ≡ []
map-nil f [] h = refl
map-nil f (x ∷ xs) h = cc
