use Rattle.rd_segments.proofs.SpaceLemmas.{space_fresh}
use Rattle.rd_segments.proofs.space.Space.fresh.Goals as goal

pub returns-clause-ok : goal.returns-clause-ok
returns-clause-ok g c = space_fresh c.in_ok-makers.makers.items c.fresh.result c.in_ok-makers.ensures.ok c.fresh.ensures
