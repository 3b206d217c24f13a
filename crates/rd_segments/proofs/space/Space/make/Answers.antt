use Rattle.rd_segments.proofs.Prelude.{on_err_weaker}
use Rattle.rd_segments.proofs.SpaceLemmas.{same_fields}
use Rattle.rd_segments.proofs.space.Space.make.Goals as goal

pub returns-clause-unchanged : goal.returns-clause-unchanged
returns-clause-unchanged g c =
    on_err_weaker c.add_segment.result (same_fields c.args.self.now.makers.items c.add_segment.new.makers.items c.args.self.now.qhead c.args.self.now.qtail c.args.self.now.array)
    c.add_segment.ensures.unchanged
