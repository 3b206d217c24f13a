-- Facts about each element or each pair of elements of a list.
use Rattle.rd_lock.proofs.Prelude.{AllByRecursion, AreComparable, IsPrefix, Pairwise, nil_from_length, common_steps, get_elem?, only, some, some-injective, some-ne-none, ◌≡◌, ℕ, ◌+◌, ◌<◌, ◌⊎◌, List, [], ◌∷◌, ◌++◌, map, length, sym, refl, ap, inl, inr, arith}

module _ {A : Type 0} where
  pub one_of : (xs : List A) (one : length xs ≡ 1) → xs ≡ only xs one ∷ []
  one_of [] one = absurd (omega arith)
  one_of (x ∷ xs) one = ap (λ others. x ∷ others) (nil_from_length xs (omega arith))

  pub inside : (l : List A) (i : ℕ) (a : A) → get_elem? l i ≡ some a → i < length l
  inside [] i a e = absurd (some-ne-none a (sym e))
  inside (x ∷ xs) i a e = grind (arith, inside xs)

  -- an element of a list with one more at the end is in the list or is that last one
  pub at_end : (l : List A) (a b : A) (j : ℕ) → get_elem? (l ++ a ∷ []) j ≡ some b → (get_elem? l j ≡ some b) ⊎ ((j ≡ length l) × (a ≡ b))
  at_end [] a b j e = grind (arith, some-injective)
  at_end (x ∷ xs) a b j e = grind (arith, at_end xs)

  pub every_both : (P Q R : A → Type 0) → ((x : A) → P x → Q x → R x) → (xs : List A) → AllByRecursion P xs → AllByRecursion Q xs → AllByRecursion R xs
  every_both P Q R f [] h k = tt
  every_both P Q R f (x ∷ xs) h k = (f x h.0 k.0, every_both P Q R f xs h.1 k.1)

  pub every_from : (P Q : A → Type 0) → ((x : A) → P x → Q x) → (xs : List A) → AllByRecursion P xs → AllByRecursion Q xs
  every_from P Q f xs h = every_both P P Q (λ x p _. f x p) xs h h

  pub every_append : (P : A → Type 0) (xs ys : List A) → AllByRecursion P xs → AllByRecursion P ys → AllByRecursion P (xs ++ ys)
  every_append P xs ys h k = grind (arith, common_steps)

  pub every_map : {B : Type 0} (f : A → B) (P : B → Type 0) (xs : List A) → AllByRecursion (λ x. P (f x)) xs → AllByRecursion P (map f xs)
  every_map f P [] h = tt
  every_map f P (x ∷ xs) h = (h.0, every_map f P xs h.1)

  pub every_front : (P : A → Type 0) (xs ys : List A) → AllByRecursion P (xs ++ ys) → AllByRecursion P xs
  every_front P [] ys h = tt
  every_front P (x ∷ xs) ys h = (h.0, every_front P xs ys h.1)

  pub every_back : (P : A → Type 0) (xs ys : List A) → AllByRecursion P (xs ++ ys) → AllByRecursion P ys
  every_back P [] ys h = h
  every_back P (x ∷ xs) ys h = every_back P xs ys h.1

  -- what holds of each element of a mapped list holds of the image of each element
  pub of_each : {B : Type 0} (f : A → B) (P : B → Type 0) (xs : List A) → AllByRecursion P (map f xs) → AllByRecursion (λ x. P (f x)) xs
  of_each f P [] h = tt
  of_each f P (x ∷ xs) h = (h.0, of_each f P xs h.1)

  pub pairwise_map : {B : Type 0} (f : A → B) (R : A → A → Type 0) (S : B → B → Type 0) → ((x y : A) → R x y → S (f x) (f y)) → (xs : List A) → Pairwise R xs → Pairwise S (map f xs)
  pairwise_map f R S g [] h = tt
  pairwise_map f R S g (x ∷ xs) h = (every_map f (S (f x)) xs (every_from (R x) (λ y. S (f x) (f y)) (g x) xs h.0), pairwise_map f R S g xs h.1)

  -- R holds pairwise in two lists joined, if it does in each and between each element of the first
  -- and each of the second
  pub pairwise_append : (R : A → A → Type 0) (xs ys : List A) → Pairwise R xs → Pairwise R ys → AllByRecursion (λ x. AllByRecursion (R x) ys) xs → Pairwise R (xs ++ ys)
  pairwise_append R [] ys h k b = k
  pairwise_append R (x ∷ xs) ys h k b = (every_append (R x) xs ys h.0 b.0, pairwise_append R xs ys h.1 k b.1)

  -- if P holds of each element, and P of two elements gives R, then R holds pairwise
  pub pairwise_all : (P : A → Type 0) (R : A → A → Type 0) → ((x y : A) → P x → P y → R x y) → (xs : List A) → AllByRecursion P xs → Pairwise R xs
  pairwise_all P R f [] h = tt
  pairwise_all P R f (x ∷ xs) h = (every_from P (R x) (λ y. f x y h.0) xs h.1, pairwise_all P R f xs h.1)

  -- of two beginnings of one list, one is a beginning of the other
  pub comparable : (xs ys zs : List A) → IsPrefix xs zs → IsPrefix ys zs → AreComparable xs ys
  comparable [] ys zs p q = inl (ys, refl)
  comparable (x ∷ xs) [] zs p q = inr (x ∷ xs, refl)
  comparable (x ∷ xs) (y ∷ ys) [] p q = let e = p.1 in cc
  comparable (x ∷ xs) (y ∷ ys) (z ∷ zs) p q = grind (arith, comparable xs ys zs)
