use Rattle.rd_step.proofs.Prelude.{◌≡◌, ℕ, ◌<◌, slice_get, Some, vec_len, vec_capacity, idle}
use Rattle.rd_step.proofs.worlds.World.fresh.Given as goal

abbrev pub invariant-loop : goal.invariant-loop
invariant-loop g l =
    (vec_len l.list ≡ l.counter) × (vec_capacity l.list ≡ l.fn.actors) × ((n : ℕ) → n < l.counter → slice_get l.list.items n ≡ Some idle)
