-- A fact that holds exactly if two tests pass, decided by the tests in their order.
use Rattle.rd_cell.proofs.Prelude.{◌≡◌, ◌↔◌, Bool, true, false, both_ways}

-- if the first test passes, the second decides the fact
pub second_test_decides : {P Q W : Type 0} (a b : Bool) → (a ≡ true) ↔ P → (b ≡ true) ↔ Q → (P → Q → W) → (W → Q) → a ≡ true → (b ≡ true) ↔ W
second_test_decides a b first second all other passed = ((λ e. all (first.0 passed) (second.0 e)), (λ w. second.1 (other w)))

-- if the first test fails, so does the fact
pub first_test_refutes : {P W : Type 0} (a : Bool) → (a ≡ true) ↔ P → (W → P) → a ≡ false → (a ≡ true) ↔ W
first_test_refutes a first one failed = ((λ e. absurd (both_ways a failed e)), (λ w. first.1 (one w)))
