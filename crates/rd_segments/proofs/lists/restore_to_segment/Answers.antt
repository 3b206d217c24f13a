use Rattle.rd_segments.proofs.Prelude.{arith}
use Rattle.rd_segments.proofs.ListsLemmas.{segment_there, written_keeps, maker_within}
use Rattle.rd_segments.proofs.SegmentsLemmas.{restores_in}
use Rattle.rd_segments.proofs.lists.restore_to_segment.Goals as goal

pub returns-clause-done : goal.returns-clause-done
returns-clause-done g c =
    restores_in c.args.makers.now.items c.args.name c.from.result c.index_mut.result.now c.index_mut-2.result.now c.restore.new.self
    c.args.place c.args.content
    (record {
      maker = c.from.ensures;
      there = segment_there _ c.args.place c.requires.there;
      list_is = c.index_mut.ensures.value;
      segment_is = c.index_mut-2.ensures.value;
      own = c.requires.its;
    })
    c.restore.ensures

pub returns-clause-room : goal.returns-clause-room
returns-clause-room g c =
    let there = segment_there _ c.args.place c.requires.there in
    let is = c.from.ensures in
    written_keeps c.args.makers.now.items c.from.result c.args.name.n c.index_mut.result.now c.restore.new.self
    (let within = maker_within c.args.makers.now.items c.args.name there in omega arith) c.index_mut.ensures.value
