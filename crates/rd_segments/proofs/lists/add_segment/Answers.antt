use Rattle.std.proofs.Common.{arith}
use Rattle.rd_segments.proofs.ListsLemmas.{made_uses}
use Rattle.rd_segments.proofs.SegmentsLemmas.{makes_in, named_in, refuses_making, making_same}
use Rattle.rd_segments.proofs.lists.add_segment.Goals as goal

pub returns-clause-name : goal.returns-clause-name
returns-clause-name g c =
    named_in c.args.makers.now.items c.args.maker c.from.result c.args.value c.index_mut.result.now c.make_next.new.list
    (record { maker_is = c.from.ensures; within = c.requires.maker_there; list_is = c.index_mut.ensures.value }) c.make_next.result c.make_next.ensures.ok

pub returns-clause-ok : goal.returns-clause-ok
returns-clause-ok g c =
    makes_in c.args.makers.now.items c.args.maker c.from.result c.args.value c.index_mut.result.now c.make_next.new.list
    (record { maker_is = c.from.ensures; within = c.requires.maker_there; list_is = c.index_mut.ensures.value }) c.make_next.result c.make_next.ensures.ok

pub returns-clause-err : goal.returns-clause-err
returns-clause-err g c = grind (arith, refuses_making)

pub returns-clause-unchanged : goal.returns-clause-unchanged
returns-clause-unchanged g c = grind (arith, making_same)

pub returns-clause-room : goal.returns-clause-room
returns-clause-room g c = grind (arith, made_uses)
