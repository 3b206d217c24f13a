-- Values and errors of `and_then` and `ok_or`, traced back to where they came from.
use Rattle.rd_cell.proofs.Prelude.{◌≡◌, Option, Some, ok_or, Result, Ok, Err, arith, and_then}

-- if `and_then` gives a value, both of its parts do
pub and_then_ok : {T U E P : Type 0} (r : Result T E) (f : T → Result U E) (y : U) → and_then r f ≡ Ok y → ((x : T) → r ≡ Ok x → f x ≡ Ok y → P) → P
and_then_ok r f y h go = grind arith

-- if `and_then` gives an error, one of its parts does
pub and_then_err : {T U E P : Type 0} (r : Result T E) (f : T → Result U E) (e : E) → and_then r f ≡ Err e → (r ≡ Err e → P) → ((x : T) → r ≡ Ok x → f x ≡ Err e → P) → P
and_then_err r f e h first later = grind arith

-- if `ok_or` gives a value, the option had it
pub ok_or_ok : {T E : Type 0} (o : Option T) (e : E) (x : T) → ok_or o e ≡ Ok x → o ≡ Some x
ok_or_ok o e x h = grind arith

-- equal successes have equal values
pub same_Ok : {T E : Type 0} (x y : T) → ◌≡◌ {A = Result T E} (Ok x) (Ok y) → x ≡ y
same_Ok x y h = cc
