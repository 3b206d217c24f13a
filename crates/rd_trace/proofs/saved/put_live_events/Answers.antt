use Rattle.rd_trace.proofs.Prelude.{◌≡◌, ◌+◌, ◌++◌, ◌∷◌, [], List, length, take, string_bytes, ap, subst, arith, take_all, length-map, Event, state, Gives, event_of, event_data}
use Rattle.rd_trace.proofs.SavedLemmas.{live_events_take_more}
use Rattle.rd_trace.proofs.TextLemmas.{one_more_appended}
use Rattle.rd_trace.proofs.saved.put_live_events.Goals as goal

pub loop-k-preserved : goal.loop-k-preserved
loop-k-preserved g c =
    let k = c.loop-k.k in
    let es = (state c.args.session.now).live in
    let e = c.at.result.now.event in
    let next : take (k + 1) es ≡ take k es ++ e ∷ [] =
    subst (λ (fs : List Event). take (k + 1) fs ≡ take k fs ++ e ∷ []) c.live-live.ensures.events (live_events_take_more c.live-live.result k c.at.result.now (omega arith) c.at.ensures) in
    one_more_appended (Gives event_of) event_data es k e (string_bytes c.args.text.now) (string_bytes c.loop-k.text) (string_bytes c.put_next_event.new.text)
    (omega (arith, ap length c.live-live.ensures.events, length-map c.live-live.result (λ x. x.event))) next c.loop-k.invariant c.in_ok-put_next_event.ensures.ok c.in_ok-put_next_event.ensures.kept

pub returns : goal.returns
returns g c = grind (arith, string_bytes, take_all, length-map)
