use Rattle.rd_segments.proofs.Prelude.{◌≡◌, List, [], ◌∷◌, sym, subst, arith, Segment, IsOneFreshSegment}
use Rattle.rd_segments.proofs.FreshLemmas.{one_alone, alone_one, only_one}
use Rattle.rd_segments.proofs.makers.is_one_fresh_segment.Goals as goal

pub returns-in-len1 : goal.returns-in-len1
returns-in-len1 g c =
    let s = c.segment-item.result in
    let one : c.args.list.now ≡ s ∷ [] = only_one c.args.list.now s (omega arith) c.segment-item.is in (
      (λ e. subst (λ (ss : List (Segment g.row.R)). IsOneFreshSegment ss) (sym one) (one_alone s (c.is_fresh.ensures.0 e))),
      (λ h. c.is_fresh.ensures.1 (alone_one s (subst (λ (ss : List (Segment g.row.R)). IsOneFreshSegment ss) one h))),
    )
