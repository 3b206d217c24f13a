use Rattle.rd_trace.proofs.Prelude.{IfOk, subst, view, World, IsStartValue}
use Rattle.rd_trace.proofs.starts.session_start_json.Goals as goal

pub returns : goal.returns
returns g c = subst (λ (w : World). IfOk c.start_json.result (λ value. IsStartValue w (view value))) c.in-Ok.ensures.ok c.start_json.ensures
