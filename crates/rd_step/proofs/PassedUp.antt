-- The error that a `?` passes up.
use Rattle.rd_step.proofs.Prelude.{◌≡◌, Result, arith, OnErr, IfErr, IsErrAnd}

-- a fact about the error that is passed up is one about the result's error
pub error_passed_up : {T E : Type 0} (P : E → Type 0) (x : E) (r : Result T E) → IsErrAnd r (λ e. e ≡ x) → P x → IfErr r P
error_passed_up P x r is p = grind arith

-- a fact that holds anyway holds if the result is an error
pub fact_passed_up : {T E F : Type 0} (r : Result T E) → F → OnErr r F
fact_passed_up r p = grind arith
