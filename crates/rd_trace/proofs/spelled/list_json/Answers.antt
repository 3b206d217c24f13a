use Rattle.rd_trace.proofs.Prelude.{take, arith}
use Rattle.rd_trace.proofs.SpellLemmas.{take_item, none_written, one_more_written}
use Rattle.rd_trace.proofs.spelled.list_json.Goals as goal

pub loop-thing-init : goal.loop-thing-init
loop-thing-init g c = (none_written g.T.Spelled.spells g.T.Written.datum c.in_ok-values.values.items c.in_ok-values.ensures.items, omega (arith, c.in_ok-values.ensures.len), omega (arith, c.in_ok-values.ensures.capacity))

pub loop-thing-preserved : goal.loop-thing-preserved
loop-thing-preserved g c =
    let xs = c.args.things.now in
    let i = c.loop-thing.thing-index in
    let x = c.thing-item.result in (
      rw (c.push_reserved.ensures.items, take_item xs i x (omega arith) c.thing-item.is)
          (one_more_written g.T.Spelled.spells g.T.Written.datum c.loop-thing.values.items (take i xs) c.in_ok-to_value.field-0 x c.loop-thing.invariant.0 c.in_ok-to_value.ensures.value c.in_ok-to_value.ensures.spelled),
      omega arith,
      omega arith,
    )
