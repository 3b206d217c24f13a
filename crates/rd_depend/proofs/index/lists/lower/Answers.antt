use Rattle.std.proofs.Common.{◌≡◌, ℕ, suc, ◌-◌, ◌<◌, List, ◌∷◌, ◌++◌, length, map, get_or, set, take, drop, ap, arith}
use Rattle.rd_depend.proofs.index.lists.lower.Goals as goal

-- one more of them is one less
one_lower : (ps : List ℕ) (i : ℕ) → i < length ps
    → let qs = map (λ p. p - 1) (take i ps) ++ drop i ps in set qs i (get_or qs i 0 - 1) ≡ map (λ p. p - 1) (take (suc i) ps) ++ drop (suc i) ps
one_lower (p ∷ ps) (suc i) h = ap (λ (qs : List ℕ). (p - 1) ∷ qs) (one_lower ps i (omega arith))
one_lower ps i h = grind arith

pub loop-index-preserved : goal.loop-index-preserved
loop-index-preserved c = grind (arith, one_lower)
