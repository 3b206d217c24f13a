-- How a viewer's own calls grow by an answered call, and stay at a refused one.
use Rattle.rd_desk.proofs.Prelude.{◌≡◌, ℕ, List, [], ◌∷◌, ◌++◌, length, refl, ap, Result, Ok, Err, arith, eq-eqb, length-append, BookState, Call, Command, DeskRefusal, SeesAfter, Refusal, Reply, put_by, own_grows, own_same, viewer_entry}

module _ (opened : BookState) (viewer : ℕ) (old new : List (ℕ × Call)) (command : Command) where
  pub own_answered : (answer : Result Reply Refusal) → SeesAfter opened viewer old command (Ok answer) new → put_by viewer 1 new ≡ put_by viewer 1 old ++ (length new, (viewer_entry viewer command answer).1) ∷ []
  own_answered answer is = let call = (viewer_entry viewer command answer).1 in
      rw (is.2.1, own_grows viewer old is.0 ((viewer, call) ∷ []) is.1, eq-eqb viewer viewer refl, length-append is.0 ((viewer, call) ∷ []))
      (ap (λ (n : ℕ). put_by viewer 1 old ++ (n, call) ∷ []) (omega arith))

  pub own_refused : (refusal : DeskRefusal) → SeesAfter opened viewer old command (Err refusal) new → put_by viewer 1 new ≡ put_by viewer 1 old
  own_refused refusal is = grind (arith, own_same)
