use Rattle.std.proofs.Common.{arith}
use Rattle.rd_segments.proofs.ListsLemmas.{reserved_adds, list_same}
use Rattle.rd_segments.proofs.SegmentsLemmas.{segments_same}
use Rattle.rd_segments.proofs.lists.reserve_segments.Goals as goal

pub returns-clause-unchanged : goal.returns-clause-unchanged
returns-clause-unchanged g c = grind (arith, segments_same, list_same)

pub returns-clause-room : goal.returns-clause-room
returns-clause-room g c =
    reserved_adds c.args.makers.now.items c.args.maker c.from.result c.args.more c.index_mut.result.now c.reserve.new.list c.reserve.result c.from.ensures
    c.requires.maker_there c.index_mut.ensures.value c.reserve.ensures.ok c.reserve.ensures.err c.reserve.ensures.room
