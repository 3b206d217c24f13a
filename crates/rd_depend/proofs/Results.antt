-- What follows from whether a result is an error.
use Rattle.rd_depend.proofs.Prelude.{◌≡◌, true, false, Result, is_err, IsOk, OnOk, arith}
use Rattle.rd_cell.proofs.Prelude.{OnErr}

pub ok_then : {X E : Type 0} (r : Result X E) (P : Type 0) → is_err r ≡ false → OnOk r P → P
ok_then r h k p = grind arith

pub err_then : {X E P : Type 0} (r : Result X E) → is_err r ≡ true → OnErr r P → P
err_then r h p = grind arith

pub not_refused : {X E : Type 0} (r : Result X E) → is_err r ≡ true → IsOk r → ⊥
not_refused r h k = grind arith
