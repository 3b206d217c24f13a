use Rattle.rd_trace.proofs.Prelude.{take, string_bytes, state, Gives, event_of, event_data, AreAppended}
use Rattle.rd_trace.proofs.saved.put_live_events.Given as goal

-- the texts of the live events before this one
abbrev pub invariant-loop-k : goal.invariant-loop-k
invariant-loop-k g l = AreAppended (Gives event_of) event_data (take l.k (state l.session).live) (string_bytes l.initial.text) (string_bytes l.text)
