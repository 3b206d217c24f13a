use Rattle.rd_trace.proofs.Prelude.{take, string_bytes, Gives, event_of, event_data, AreAppended}
use Rattle.rd_trace.proofs.events.put_events.Given as goal

-- the texts of the events before this one
abbrev pub invariant-loop-i : goal.invariant-loop-i
invariant-loop-i l = AreAppended (Gives event_of) event_data (take l.i l.events) (string_bytes l.initial.text) (string_bytes l.text)
