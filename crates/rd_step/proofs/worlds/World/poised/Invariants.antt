use Rattle.rd_step.proofs.Prelude.{◌≡◌, ℕ, suc, ◌<◌, slice_get, Some, vec_len, vec_capacity, poised}
use Rattle.rd_step.proofs.worlds.World.poised.Given as goal

abbrev pub invariant-loop-number : goal.invariant-loop-number
invariant-loop-number g l =
    (vec_len l.list ≡ l.number) × (vec_capacity l.list ≡ l.fn.actors) × ((n : ℕ) → n < l.number → slice_get l.list.items n ≡ Some (poised (suc n)))
