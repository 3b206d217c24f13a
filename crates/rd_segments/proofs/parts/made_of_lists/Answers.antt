use Rattle.rd_segments.proofs.Prelude.{arith, sym}
use Rattle.rd_segments.proofs.PartsLemmas.{one_more_made}
use Rattle.rd_segments.proofs.parts.made_of_lists.Goals as goal

pub made_of_list-requires : goal.made_of_list-requires
made_of_list-requires g c = λ x there. c.requires _ x (c.loop-m.m, omega arith, sym c.index.ensures) there

pub loop-m-preserved : goal.loop-m-preserved
loop-m-preserved g c = (
  omega arith,
  omega arith,
  one_more_made _ _ _ _ _ _ _ (omega arith) c.index.ensures c.push_reserved.ensures.items c.loop-m.invariant.2 c.in_ok-list.ensures,
)
