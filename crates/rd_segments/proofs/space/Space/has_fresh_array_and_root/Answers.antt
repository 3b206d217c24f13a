use Rattle.rd_segments.proofs.Prelude.{List, sym, subst, second_test_decides, first_test_refutes, Segment, ListOf, AreFreshLists}
use Rattle.rd_segments.proofs.space.Space.has_fresh_array_and_root.Goals as goal

pub returns-then-is_fresh : goal.returns-then-is_fresh
returns-then-is_fresh g c =
    second_test_decides c.is_fresh.result c.are_fresh_lists.result c.is_fresh.ensures c.are_fresh_lists.ensures
    (λ array makers. (array, subst (λ (lists : List (ListOf (Segment g.row.R))). AreFreshLists lists) c.deref.ensures.value makers))
    (λ both. subst (λ (lists : List (ListOf (Segment g.row.R))). AreFreshLists lists) (sym c.deref.ensures.value) both.1) c.if-is_fresh.true

pub returns-else-is_fresh : goal.returns-else-is_fresh
returns-else-is_fresh g c = first_test_refutes c.is_fresh.result c.is_fresh.ensures (λ both. both.0) c.if-is_fresh.false
