use Rattle.rd_trace.proofs.Prelude.{string_bytes, arith, take_all, Gives, event_of, event_data, get_or_default}
use Rattle.rd_trace.proofs.SpellLemmas.{take_item}
use Rattle.rd_trace.proofs.TextLemmas.{one_more_appended}
use Rattle.rd_trace.proofs.events.put_events.Goals as goal

pub loop-i-preserved : goal.loop-i-preserved
loop-i-preserved c =
    let es = c.args.events.now in
    let i = c.loop-i.i in
    one_more_appended (Gives event_of) event_data es i _ (string_bytes c.args.text.now) (string_bytes c.loop-i.text) (string_bytes c.put_next_event.new.text) (omega arith)
    (take_item es i _ (omega arith) (get_or_default es i _ _ (omega arith))) c.loop-i.invariant c.in_ok-put_next_event.ensures.ok c.in_ok-put_next_event.ensures.kept

pub returns : goal.returns
returns c = grind (arith, string_bytes, take_all)
