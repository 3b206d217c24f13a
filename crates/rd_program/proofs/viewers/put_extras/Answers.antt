use Rattle.std.proofs.Common.{◌∙◌, ◌++◌, ap}
use Rattle.rd_program.proofs.viewers.put_extras.Goals as goal

pub returns-clause-ok : goal.returns-clause-ok
returns-clause-ok c =
    let calls = c.in_ok-put_history_if_asked.ensures in
    let trace = c.in_ok-put_trace_if_asked.ensures in
    record { calls = calls.0; trace = trace.0; are_calls = calls.2; is_trace = trace.2; whole = trace.1 ∙ ap (λ t. t ++ trace.0) calls.1 }
