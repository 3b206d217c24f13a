-- Lists of actors.
use Rattle.rd_step.proofs.Prelude.{◌≡◌, ℕ, suc, ◌-◌, ◌<◌, arith, Option, None, List, length, set, slice_get, IsSome, eq-eqb, ne_eqb, cond-true, cond-false, slice_get_past, Actor, with_actor, numbered, slice_get-set_same, slice_get-set_other}

-- writing at index n replaces the record of actor n + 1, and leaves all others
pub numbered-set : (xs : List Actor) (n : ℕ) (a : Actor) → n < length xs
    → numbered (set xs n a) ≡ with_actor (suc n) a (numbered xs)
numbered-set xs n a within = grind (arith, slice_get, slice_get-set_same, cond-true, eq-eqb, slice_get-set_other, cond-false, ne_eqb)

no_some : (o : Option Actor) → o ≡ None → IsSome o → ⊥
no_some o e h = cc

-- the index of an actor that is there is within the list
pub numbered-within : (xs : List Actor) (n : ℕ) → IsSome (numbered xs n) → n - 1 < length xs
numbered-within xs n h = grind (arith, no_some, slice_get, slice_get_past)
