-- What two passes that meet learn.
use Rattle.rd_lock.proofs.Prelude.{◌≡◌, ℕ, List, [], ◌∷◌, ◌++◌, map, length, ◌∙◌, subst, inl, inr, ⊎_elim, AreComparable, IsPrefix, Pairwise, PassView, with_served_seen, only}
use Rattle.rd_lock.proofs.Lists.{one_of}

module _ {E O : Type 0} (ps qs : List (PassView E O)) (one : length ps ≡ 1) (other : length qs ≡ 1) where
  -- the two members of a joined seat after its load of the word `served`
  pub both_look : (all : List (PassView E O)) (n : ℕ) → all ≡ map (with_served_seen n) (qs ++ ps) → all ≡ with_served_seen n (only qs other) ∷ with_served_seen n (only ps one) ∷ []
  both_look all n is = is ∙ (λ i. map (with_served_seen n) (one_of qs other i ++ one_of ps one i))

  -- what one of the two has seen is a beginning of what the other has seen
  pub in_line : Pairwise (λ (p q : PassView E O). AreComparable p.seen q.seen) (qs ++ ps) → AreComparable (only ps one).seen (only qs other).seen
  in_line h = let p = only ps one in let q = only qs other in
      ⊎_elim (λ (a : IsPrefix q.seen p.seen). inr a) (λ (a : IsPrefix p.seen q.seen). inl a) (subst (Pairwise (λ (p q : PassView E O). AreComparable p.seen q.seen)) (λ i. one_of qs other i ++ one_of ps one i) h).0.0
