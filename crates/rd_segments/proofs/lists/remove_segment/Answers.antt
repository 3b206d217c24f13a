use Rattle.std.proofs.Common.{arith}
use Rattle.rd_segments.proofs.ListsLemmas.{given_returns, count_within}
use Rattle.rd_segments.proofs.SegmentsLemmas.{unmakes_in}
use Rattle.rd_segments.proofs.lists.remove_segment.Goals as goal

pub returns-clause-gone : goal.returns-clause-gone
returns-clause-gone g c =
    unmakes_in c.args.makers.now.items c.args.maker c.from.result c.index_mut.result.now c.remove_last.new.list
    (record {
      maker_is = c.from.ensures;
      within = count_within c.args.makers.now.items c.args.maker c.requires.has_one;
      list_is = c.index_mut.ensures.value;
    })
    c.remove_last.ensures.items

pub returns-clause-room : goal.returns-clause-room
returns-clause-room g c = grind (arith, given_returns, count_within)
