use Rattle.rd_equivalence.proofs.Prelude.{reached_of, remaining_steps}
use Rattle.rd_equivalence.proofs.ComparingLemmas.{IsLeftToCompare}
use Rattle.rd_equivalence.proofs.equivalence.are_rests_equivalent.Given as goal

abbrev pub invariant-loop-entry : goal.invariant-loop-entry
invariant-loop-entry l = IsLeftToCompare l.a l.b l.entry-index (reached_of l.reached) (remaining_steps l.left)
