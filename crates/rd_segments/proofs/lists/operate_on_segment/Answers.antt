use Rattle.rd_segments.proofs.Prelude.{arith, slice_get-get_or}
use Rattle.rd_segments.proofs.ListsLemmas.{written_keeps, found_there}
use Rattle.rd_segments.proofs.SegmentsLemmas.{operates_in, refuses_in, unchanged_in}
use Rattle.rd_segments.proofs.lists.operate_on_segment.Goals as goal

pub returns-clause-ok : goal.returns-clause-ok
returns-clause-ok g c =
    operates_in c.args.makers.now.items c.args.name c.from-maker.result c.index_mut.result.now c.index_mut-2.result.now c.operate.new.self
    c.args.place c.args.operation (grind (arith, found_there, slice_get-get_or)) c.operate.result c.operate.ensures.ok

pub returns-clause-err : goal.returns-clause-err
returns-clause-err g c =
    refuses_in c.args.makers.now.items c.args.name c.from-maker.result c.index_mut.result.now c.index_mut-2.result.now c.operate.new.self
    c.args.place c.args.operation (grind (arith, found_there, slice_get-get_or)) c.operate.result c.operate.ensures.err

pub returns-clause-unchanged : goal.returns-clause-unchanged
returns-clause-unchanged g c =
    unchanged_in c.args.makers.now.items c.args.name c.from-maker.result c.index_mut.result.now c.index_mut-2.result.now c.operate.new.self c.args.place
    (grind (arith, found_there, slice_get-get_or)) c.operate.result c.operate.ensures.unchanged

pub returns-clause-room : goal.returns-clause-room
returns-clause-room g c = grind (arith, written_keeps)
