-- The results of a view.
use Rattle.rd_view.proofs.Prelude.{arith, ◌≡◌, ℕ, suc, List, [], ◌∷◌, Option, Vec, length, Answer, AreAllAnswered, BookState, Call, Global, ParsedLine}

module _ (opened : BookState) where
  -- viewers that were answered have as many lists of answers as of lines
  pub AreAllAnswered-long : (history : List (ℕ × Call)) (n : ℕ) (said : List (Vec ParsedLine Global)) (answered : List (Option (Vec Answer Global)))
      → AreAllAnswered opened history n said answered → length said ≡ length answered
  AreAllAnswered-long history n [] answered are = grind arith
  AreAllAnswered-long history n (s ∷ said) answered are = grind (arith, AreAllAnswered-long history (suc n) said)
