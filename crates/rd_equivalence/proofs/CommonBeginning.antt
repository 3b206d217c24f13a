-- When neither of two lists begins with the other.
use Rattle.rd_equivalence.proofs.Prelude.{◌≡◌, ℕ, zero, suc, ◌<◌, refl, arith, List, [], ◌∷◌, length, slice_get, Some, Begins, NeitherBegins}

-- a list does not begin with one that has more elements or another element at some index
begins_not : {X : Type 0} (xs ys : List X) (n : ℕ) → ((x : X) → slice_get xs n ≡ Some x → slice_get ys n ≡ Some x → ⊥) → n < length xs → Begins xs ys → ⊥
begins_not [] ys n apart within h = omega arith
begins_not (x ∷ xs) [] n apart within h = cc
begins_not (x ∷ xs) (y ∷ ys) zero apart within h = apart x refl cc
begins_not (x ∷ xs) (y ∷ ys) (suc n) apart within h = begins_not xs ys n apart (omega arith) cc

pub neither_begins : {X : Type 0} (xs ys : List X) (n : ℕ) → ((x : X) → slice_get xs n ≡ Some x → slice_get ys n ≡ Some x → ⊥) → n < length xs → n < length ys → NeitherBegins xs ys
neither_begins xs ys n apart in_xs in_ys = (begins_not xs ys n apart in_xs, begins_not ys xs n (λ x there here. apart x here there) in_ys)
