-- Rust's `and_then` and `map` of a `Result`: both pass an error on.
use Rattle.std.specs.Prelude.{Result, Ok, Err}

-- `r.and_then(f)`: the result of `f` on the value, or the error
abbrev pub and_then : {T U E : Type 0} → Result T E → (T → Result U E) → Result U E
and_then (Ok x) f = f x
and_then (Err e) f = Err e

-- `r.map(f)`: `f` of the value, or the error
abbrev pub result_map : {T U E : Type 0} → (T → U) → Result T E → Result U E
result_map f (Ok x) = Ok (f x)
result_map f (Err e) = Err e
