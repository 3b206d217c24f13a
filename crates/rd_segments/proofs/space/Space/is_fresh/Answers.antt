use Rattle.rd_segments.proofs.Prelude.{◌∙◌, second_test_decides, first_test_refutes, contents_of_fields}
use Rattle.rd_segments.proofs.SpaceLemmas.{space_fresh}
use Rattle.rd_segments.proofs.FreshLemmas.{fresh_ends, fresh_inside}
use Rattle.rd_segments.proofs.space.Space.is_fresh.Goals as goal

pub returns-then-has_fresh_ends : goal.returns-then-has_fresh_ends
returns-then-has_fresh_ends g c =
    let s = c.args.self.now in
    second_test_decides c.has_fresh_ends.result c.has_fresh_array_and_root.result c.has_fresh_ends.ensures c.has_fresh_array_and_root.ensures
    (λ ends inside. (λ i. contents_of_fields s.makers.items (ends.0 i) (ends.1 i) s.array) ∙ space_fresh s.makers.items s.array inside.1 inside.0)
    (fresh_inside s.makers.items s.qhead s.qtail s.array) c.if-has_fresh_ends.true

pub returns-else-has_fresh_ends : goal.returns-else-has_fresh_ends
returns-else-has_fresh_ends g c =
    let s = c.args.self.now in
    first_test_refutes c.has_fresh_ends.result c.has_fresh_ends.ensures (fresh_ends s.makers.items s.qhead s.qtail s.array) c.if-has_fresh_ends.false
