use Rattle.rd_trace.proofs.Prelude.{string_bytes, ap, ◌∙◌, ◌++◌, view, state}
use Rattle.rd_trace.proofs.TextLemmas.{last_appended}
use Rattle.rd_trace.proofs.WriteLemmas.{start_appended}
use Rattle.rd_trace.proofs.starts.put_start.Goals as goal

pub returns : goal.returns
returns g c =
    let old = string_bytes c.args.text.now in
    let written = c.in_ok-written.ensures in
    last_appended c.push_str.result old (string_bytes c.push_str.new.self) _ _ c.push_str.ensures.bytes
    (λ e.
    start_appended (state c.args.session.now).start (view c.in_ok-start.start) (string_bytes c.in_ok-written.written) old (string_bytes c.push_str.new.self) c.in_ok-start.ensures
    written.text written.order written.reads_back (e ∙ ap (λ s. old ++ s) c.as_str.ensures.value))
