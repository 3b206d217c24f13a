use Rattle.rd_segments.proofs.SpaceLemmas.{same_fields}
use Rattle.rd_segments.proofs.space.Space.make_room.Goals as goal

pub returns-clause-unchanged : goal.returns-clause-unchanged
returns-clause-unchanged g c =
    same_fields c.args.self.now.makers.items c.reserve_segments.new.makers.items c.args.self.now.qhead c.args.self.now.qtail c.args.self.now.array
    c.reserve_segments.ensures.unchanged
