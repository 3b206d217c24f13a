use Rattle.std.proofs.lemmas.Fn.{says_at}
use Rattle.rd_segments.proofs.Prelude.{arith, refl}
use Rattle.rd_segments.proofs.PartsLemmas.{one_more_made}
use Rattle.rd_segments.proofs.parts.made_of_list.Goals as goal

pub loop-n-preserved : goal.loop-n-preserved
loop-n-preserved g c = (
  omega arith,
  omega arith,
  one_more_made _ _ _ _ _ _ _ (omega arith) c.index.ensures c.push_reserved.ensures.items c.loop-n.invariant.2 (says_at g.F.Fn c.make.ensures refl),
)
