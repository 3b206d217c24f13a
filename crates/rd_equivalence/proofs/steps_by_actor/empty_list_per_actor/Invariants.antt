use Rattle.rd_equivalence.proofs.Prelude.{◌≡◌, ℕ, [], length, list_at}
use Rattle.rd_equivalence.proofs.steps_by_actor.empty_list_per_actor.Given as goal

abbrev pub invariant-loop-actor : goal.invariant-loop-actor
invariant-loop-actor l = record {
  number : length l.lists.items ≡ l._actor;
  empty : (n : ℕ) → list_at l.lists.items n ≡ [];
}
