-- Dependence is symmetric.
use Rattle.rd_step.proofs.Prelude.{◌≡◌, ℕ, ◌==◌, ◌||◌, arith, interfere-sym, depends, Entry}

-- the order doesn't matter to a test of two numbers for equality
same_either_way : (m n : ℕ) → (m == n) ≡ (n == m)
same_either_way m n = grind arith

-- x depends on y exactly if y depends on x
pub depends_symmetric : (x y : Entry) → depends x y ≡ depends y x
depends_symmetric x y = λ i. same_either_way x.event.actor y.event.actor i || interfere-sym x.place y.place x.wrote y.wrote i
