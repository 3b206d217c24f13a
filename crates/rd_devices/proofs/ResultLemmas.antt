-- What holds of an error.
use Rattle.std.proofs.Common.{◌≡◌, Result, Err, arith}
use Rattle.std.specs.Result.{IsErrAnd}

-- what holds of an error holds of the result with which `?` passes it up
pub passed_up : {T E : Type 0} (P : Result T E → Type 0) (x : E) (r : Result T E) → IsErrAnd r (λ e. e ≡ x) → P (Err x) → P r
passed_up P x r is p = grind arith
