-- A fresh world has one number of actors, which its start has. The start of any other world has
-- its parts, which have no flaw.
use Rattle.rd_trace.proofs.Prelude.{◌≡◌, ap, ◌∙◌, arith, both_ways, view, IsStartValue, fresh_data, parts_data, Value, IfOk-weaker, model}
use Rattle.rd_step.proofs.Starts.{one_count}
use Rattle.rd_trace.proofs.StartLemmas.{both_ok, fresh_start, other_start}
use Rattle.rd_trace.proofs.starts.start_json.Goals as goal

pub returns-then-is_fresh : goal.returns-then-is_fresh
returns-then-is_fresh g c =
    let w = model c.args.world.now in
    let n = c.actors.result in
    let fresh = c.is_fresh.ensures.0 c.if-is_fresh.true in
    let counted : c.from.result ≡ n = omega arith in
    let same : fresh.0 ≡ n = one_count g.row.R fresh.0 n w fresh.1 c.actors.ensures.count in
    IfOk-weaker c.fresh_json.result (λ (value : Value). view value ≡ fresh_data c.from.result) (λ value. IsStartValue w (view value))
    (λ value e. fresh_start w fresh.0 n fresh.1 same (view value) (e ∙ ap fresh_data counted) c.actors.ensures.some c.actors.ensures.within) c.fresh_json.ensures

pub returns : goal.returns
returns g c =
    let w = model c.args.world.now in
    both_ok (λ (value : Value). view value ≡ parts_data c.in-Ok.parts) (λ value. IsStartValue w (view value)) c.parts_json.result c.parts_json.ensures.value c.parts_json.ensures.spelled
    (λ value e. other_start w c.in-Ok.parts c.in-Ok.ensures.ok c.in-Ok.ensures.flawless (view value) e (λ fresh. both_ways c.is_fresh.result c.if-is_fresh.false (c.is_fresh.ensures.1 fresh)))
