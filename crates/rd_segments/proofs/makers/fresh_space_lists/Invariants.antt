use Rattle.rd_segments.proofs.Prelude.{◌≡◌, ◌+◌, vec_len, vec_capacity, SegName, by_name}
use Rattle.rd_segments.proofs.makers.fresh_space_lists.Given as goal

abbrev pub invariant-loop : goal.invariant-loop
invariant-loop g l =
    (vec_len l.makers ≡ l.counter + 1) × (vec_capacity l.makers ≡ l.fn.actors + 1)
    × ((t : SegName) → by_name l.makers.items t ≡ by_name l.initial.makers.items t)
