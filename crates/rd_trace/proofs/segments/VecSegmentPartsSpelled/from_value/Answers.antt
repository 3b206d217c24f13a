use Rattle.rd_trace.proofs.Prelude.{view}
use Rattle.rd_trace.proofs.SegmentLemmas.{segments_read}
use Rattle.rd_trace.proofs.segments.VecSegmentPartsSpelled.from_value.Goals as goal

pub returns : goal.returns
returns g c = segments_read (view c.args.value.now) _ c.as_array.ensures c.parse_list.result c.parse_list.ensures
