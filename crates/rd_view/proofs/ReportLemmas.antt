-- The next part of a report, and of a view.
use Rattle.rd_view.proofs.Prelude.{arith, OnOk, ◌≡◌, ◌∙◌, ℕ, List, ◌++◌, Result, sym, ap, append_assoc}

-- if a text and the rest make up the whole, they still do after the rest's first part was appended
pub whole_after_append : (old new part left rest whole : List ℕ) → new ≡ old ++ part → left ≡ part ++ rest → old ++ left ≡ whole → new ++ rest ≡ whole
whole_after_append old new part left rest whole put is all = ap (λ t. t ++ rest) put ∙ append_assoc old part rest ∙ ap (λ t. old ++ t) (sym is) ∙ all

-- a part was appended, and then another by a call that may fail: if it succeeds, both were
pub both_appended : {E : Type 0} (r : Result (Unit {0}) E) (old mid new front back : List ℕ) → mid ≡ old ++ front → OnOk r (new ≡ mid ++ back) → OnOk r (new ≡ old ++ (front ++ back))
both_appended r old mid new front back one other = grind (arith, append_assoc)
