use Rattle.rd_segments.proofs.Prelude.{◌≡◌, ◌-◌, List, ◌∷◌, length, take, drop, sym, subst, arith, false≢true, Segment, second_test_decides, first_test_refutes, ListOf, AreFreshLists, IsOneFreshSegment, nil_from_length}
use Rattle.rd_segments.proofs.FreshLemmas.{first_and_others, fresh_lists, no_lists, first_alone, others_empty}
use Rattle.rd_segments.proofs.makers.are_fresh_lists.Goals as goal

pub returns-in-empty : goal.returns-in-empty
returns-in-empty g c = ((λ e. absurd (false≢true e)), (λ h. absurd (no_lists c.args.makers.now (nil_from_length c.args.makers.now (omega arith)) h)))

pub returns-then-is_one_fresh_segment : goal.returns-then-is_one_fresh_segment
returns-then-is_one_fresh_segment g c =
    let makers = c.args.makers.now in
    let first = c.first-item.result in
    let others = take (length makers - 1) (drop 1 makers) in
    let same : makers ≡ first ∷ others = first_and_others makers first c.in-len1-up.len_at_least c.first-item.is in
    second_test_decides c.is_one_fresh_segment.result c.are_empty_lists.result c.is_one_fresh_segment.ensures c.are_empty_lists.ensures
    (λ root rest. subst (λ (lists : List (ListOf (Segment g.row.R))). AreFreshLists lists) (sym same)
    (fresh_lists first others (subst (λ (ss : List (Segment g.row.R)). IsOneFreshSegment ss) c.deref.ensures.value root) rest))
    (λ h. others_empty first others (subst (λ (lists : List (ListOf (Segment g.row.R))). AreFreshLists lists) same h)) c.if-is_one_fresh_segment.true

pub returns-else-is_one_fresh_segment : goal.returns-else-is_one_fresh_segment
returns-else-is_one_fresh_segment g c =
    let makers = c.args.makers.now in
    let first = c.first-item.result in
    let others = take (length makers - 1) (drop 1 makers) in
    let same : makers ≡ first ∷ others = first_and_others makers first c.in-len1-up.len_at_least c.first-item.is in
    first_test_refutes c.is_one_fresh_segment.result c.is_one_fresh_segment.ensures
    (λ h. subst (λ (ss : List (Segment g.row.R)). IsOneFreshSegment ss) (sym c.deref.ensures.value)
    (first_alone first others (subst (λ (lists : List (ListOf (Segment g.row.R))). AreFreshLists lists) same h))) c.if-is_one_fresh_segment.false
