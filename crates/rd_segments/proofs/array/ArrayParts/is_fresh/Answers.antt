use Rattle.rd_segments.proofs.Prelude.{◌∙◌, second_test_decides, first_test_refutes, array_contents_with}
use Rattle.rd_segments.proofs.ArrayLemmas.{array_fresh}
use Rattle.rd_segments.proofs.FreshLemmas.{array_counters, array_slots}
use Rattle.rd_segments.proofs.array.ArrayParts.is_fresh.Goals as goal

pub returns-then-has_fresh_counters : goal.returns-then-has_fresh_counters
returns-then-has_fresh_counters c =
    let a = c.args.self.now in
    second_test_decides c.has_fresh_counters.result c.are_empty_slots.result c.has_fresh_counters.ensures c.are_empty_slots.ensures
    (λ counters slots. (λ i. array_contents_with (counters.0 i) (counters.1 i) a.cells) ∙ array_fresh a.cells a.sized slots) (array_slots a) c.if-has_fresh_counters.true

pub returns-else-has_fresh_counters : goal.returns-else-has_fresh_counters
returns-else-has_fresh_counters c =
    first_test_refutes c.has_fresh_counters.result c.has_fresh_counters.ensures (array_counters c.args.self.now) c.if-has_fresh_counters.false
