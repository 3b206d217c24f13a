-- `undone_event` isn't none here, since its number is from 1 to the count of undone events. Each
-- turn appends the text of one more.
use Rattle.rd_trace.proofs.Prelude.{string_bytes, sym, ◌∙◌, arith, take_all, add-one, state, Gives, event_of, event_data}
use Rattle.rd_trace.proofs.SpellLemmas.{take_got, some_got}
use Rattle.rd_trace.proofs.TextLemmas.{one_more_appended}
use Rattle.rd_trace.proofs.saved.put_undone_events.Goals as goal

pub unreachable-requires : goal.unreachable-requires
unreachable-requires g c =
    let k = c.loop-k.k in
    let es = (state c.args.session.now).undone in
    absurd (some_got es k (omega (arith, c.undone_len-k-end.ensures.count)) (λ e h. c.in_default.not-Some e (c.undone_event.ensures ∙ rw add-one h)))

pub loop-k-preserved : goal.loop-k-preserved
loop-k-preserved g c =
    let k = c.loop-k.k in
    let es = (state c.args.session.now).undone in
    one_more_appended (Gives event_of) event_data es k c.in-Some.event (string_bytes c.args.text.now) (string_bytes c.loop-k.text) (string_bytes c.put_next_event.new.text)
    (omega (arith, c.undone_len-k-end.ensures.count)) (take_got es k c.in-Some.event (rw add-one at (sym c.undone_event.ensures ∙ c.in-Some.is))) c.loop-k.invariant
    c.in_ok-put_next_event.ensures.ok c.in_ok-put_next_event.ensures.kept

pub returns : goal.returns
returns g c = grind (arith, string_bytes, take_all)
