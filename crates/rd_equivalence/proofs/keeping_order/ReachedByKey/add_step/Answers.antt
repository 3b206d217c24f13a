use Rattle.rd_equivalence.proofs.Prelude.{◌≡◌, ◌∙◌, refl, ap, arith, not, with_step_under, reached_of, with_step, place_key, value_key, segment_key}
use Rattle.rd_equivalence.proofs.ComparedSteps.{after_as, all_after}
use Rattle.rd_equivalence.proofs.keeping_order.ReachedByKey.add_step.Goals as goal

pub returns-clause-order : goal.returns-clause-order
returns-clause-order c =
    let x = c.args.entry.now in
    let i = c.args.at in
    let s = reached_of c.args.self.now in
    let place : c.map.result ≡ place_key x.place = grind arith in
    let value : c.and_then.result ≡ value_key x.place = grind arith in
    let segment : c.and_then-2.result ≡ segment_key x.place = grind arith in
    let wrote = ap not c.is_nothing-wrote.ensures in
    let one = c.in_ok-place.ensures.reached ∙ (λ j. with_step_under (place j) (wrote j) i s) in
    let two = c.in_ok-value.ensures.reached ∙ (λ j. with_step_under (value j) (c.is_value_written-value_written.ensures j) i (one j)) in
    all_after s x i c.in_ok-place.place c.in_ok-value.value c.in_ok-segment.segment (after_as _ _ _ _ _ _ _ i refl place wrote c.in_ok-place.ensures.order)
    (after_as _ _ _ _ _ _ _ i one value c.is_value_written-value_written.ensures c.in_ok-value.ensures.order)
    (after_as _ _ _ _ _ _ _ i two segment c.is_whole_segment.ensures c.in_ok-segment.ensures.order)

pub returns-clause-reached : goal.returns-clause-reached
unfolding with_step
returns-clause-reached c =
    let x = c.args.entry.now in
    let i = c.args.at in
    let place : c.map.result ≡ place_key x.place = grind arith in
    let value : c.and_then.result ≡ value_key x.place = grind arith in
    let segment : c.and_then-2.result ≡ segment_key x.place = grind arith in
    let one = c.in_ok-place.ensures.reached ∙ (λ j. with_step_under (place j) (ap not c.is_nothing-wrote.ensures j) i (reached_of c.args.self.now)) in
    let two = c.in_ok-value.ensures.reached ∙ (λ j. with_step_under (value j) (c.is_value_written-value_written.ensures j) i (one j)) in
    c.in_ok-segment.ensures.reached ∙ (λ j. with_step_under (segment j) (c.is_whole_segment.ensures j) i (two j))
