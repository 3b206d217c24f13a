-- Chains of answers by a gate, and lists whose elements are related pairwise.
use Rattle.rd_desk.proofs.Prelude.{map, Option, Vec, ◌≡◌, ℕ, List, [], ◌∷◌, ◌++◌, length, arith, ◌+◌, ◌<◌, ◌≤◌, get_or, take, add-one, AllByRecursion, AllZip, Answer, Command, Global, IsChain, IsDone, IsRunEnding, all_zipped_more, run_ending, subst, sym, take-suc, zip}

module _ {P : Type 0} (told : P → Command → Answer → P → Type 0) where
  -- asking one more command makes a chain longer
  pub one_more_told : (p q r : P) (cs : List Command) (answers : List Answer) (c : Command) (answer : Answer)
      → IsChain told p cs answers q → told q c answer r → IsChain told p (cs ++ c ∷ []) (answers ++ answer ∷ []) r
  one_more_told p q r [] answers c answer h k = grind arith
  one_more_told p q r (x ∷ xs) answers c answer h k = grind (arith, λ (next : P). one_more_told next q r xs)

module _ {A B : Type 0} (R : A → B → Type 0) where
  -- if the first i elements are related to a list, adding the next pair relates the first i + 1
  pub AllZip-take_more : (xs : List A) (ys : List B) (i : ℕ) (x : A) (y : B) → i < length xs → x ≡ get_or xs i x → AllZip R (take i xs) ys → R x y
      → AllZip R (take (i + 1) xs) (ys ++ y ∷ [])
  AllZip-take_more xs ys i x y within is h k = rw (add-one, take-suc xs i x within, ← is) (all_zipped_more R (take i xs) ys x y h k)

  -- the elements of related lists at the same position are related
  pub AllZip-zip_at : (xs : List A) (ys : List B) (i : ℕ) (d : A × B) → i < length (zip xs ys) → AllZip R xs ys → R (get_or (zip xs ys) i d).0 (get_or (zip xs ys) i d).1
  AllZip-zip_at (x ∷ xs) (y ∷ ys) i d within h = grind (arith, AllZip-zip_at xs ys)
  AllZip-zip_at _ _ i d within h = absurd (omega arith)

  -- a fact about each element of the first list may be added to the relation
  pub AllZip-with_each : (P : A → Type 0) (xs : List A) (ys : List B) → AllByRecursion P xs → AllZip R xs ys → AllZip (λ x y. P x × R x y) xs ys
  AllZip-with_each P [] ys each h = grind arith
  AllZip-with_each P (x ∷ xs) ys each h = grind (arith, AllZip-with_each P xs)

-- where each x has P and is related to its y, so is the pair that a loop over the zipped lists takes
pub AllZip-turn : {A B : Type 0} (R : A → B → Type 0) (P : A → Type 0) (xs : List A) (ys : List B) (i : ℕ) (p : A × B) → (i < length (zip xs ys)) × (p ≡ get_or (zip xs ys) i p) → AllByRecursion P xs → AllZip R xs ys → P p.0 × R p.0 p.1
AllZip-turn R P xs ys i p turn each h = subst (λ q. P q.0 × R q.0 q.1) (sym turn.1) (AllZip-zip_at (λ x y. P x × R x y) xs ys i p turn.0 (AllZip-with_each R P xs ys each h))

-- zipped lists are no longer than the first of them
pub zip_short : {A B : Type 0} (xs : List A) (ys : List B) → length (zip xs ys) ≤ length xs
zip_short (x ∷ xs) (y ∷ ys) = omega (arith, zip_short xs ys)
zip_short _ _ = omega arith

module _ {A B C : Type 0} (R : A → B → Type 0) where
  -- if S relates the first elements of the pairs of xs and ys to zs, it relates xs to zs
  pub AllZip-of_firsts : (S : A → C → Type 0) (xs : List A) (ys : List B) (zs : List C) → AllZip R xs ys → AllZip (λ p z. S p.0 z) (zip xs ys) zs → AllZip S xs zs
  AllZip-of_firsts S [] ys zs h k = grind arith
  AllZip-of_firsts S (x ∷ xs) ys zs h k = grind (arith, AllZip-of_firsts S xs)

  -- two relations from list to list can be composed
  pub AllZip-compose : (S : B → C → Type 0) (T : A → C → Type 0) → ((x : A) (y : B) (z : C) → R x y → S y z → T x z) → (xs : List A) (ys : List B) (zs : List C)
      → AllZip R xs ys → AllZip S ys zs → AllZip T xs zs
  AllZip-compose S T f [] ys zs h k = grind arith
  AllZip-compose S T f (x ∷ xs) ys zs h k = grind (arith, AllZip-compose S T f xs)

module _ {P : Type 0} (takes : P → Type 0) (told : P → Command → Answer → P → Type 0) where
  -- if each viewer gave back what `IsDone` allows, its run ended as `IsRunEnding` states
  pub all_ran : (work : List (P × Vec Command Global)) (dones : List (P × Option (Vec Answer Global))) → AllZip (λ viewer done. IsDone takes told viewer.0 viewer.1.items done) work dones → AllZip (IsRunEnding takes told) work (map run_ending dones)
  all_ran [] dones h = grind arith
  all_ran (viewer ∷ work) dones h = grind (arith, all_ran work)
