use Rattle.rd_view.proofs.Prelude.{◌≡◌, ◌∙◌, ap, refl, map, map-id, sym, YieldsList-end, YieldsList-from_vec, YieldsList-from_zip}
use Rattle.rd_view.proofs.LiveLemmas.{both_more, each_more, zip_firsts, zip_seconds}
use Rattle.rd_view.proofs.live.live_tasks.Goals as goal

pub loop-pass-preserved : goal.loop-pass-preserved
loop-pass-preserved g c = record {
  desks = rw c.in_ok-push.ensures.items (each_more (λ task. task.desk.now ≡ c.args.desk.now) c.loop-pass.tasks.items (record { desk = c.args.desk; pass = c.in-Some.pass; terminal = c.in-Ok.terminal }) c.loop-pass.invariant.desks refl);
  passes = rw c.in_ok-push.ensures.items (both_more (λ task. task.pass) (λ pair. pair.0) c.loop-pass.tasks.items (record { desk = c.args.desk; pass = c.in-Some.pass; terminal = c.in-Ok.terminal }) c.loop-pass.yielded (c.in-Some.pass, c.in-Some.terminal) c.loop-pass.invariant.passes refl);
  terminals = rw c.in_ok-push.ensures.items (both_more (λ task. task.terminal.value) (λ pair. pair.1) c.loop-pass.tasks.items (record { desk = c.args.desk; pass = c.in-Some.pass; terminal = c.in-Ok.terminal }) c.loop-pass.yielded (c.in-Some.pass, c.in-Some.terminal) c.loop-pass.invariant.terminals c.in-Ok.ensures.ok);
}

pub returns-clause-passes : goal.returns-clause-passes
returns-clause-passes g c =
    let over = YieldsList-end (YieldsList-from_zip (YieldsList-from_vec c.args.passes.items (cc) (cc)) (YieldsList-from_vec c.args.terminals.items (cc) (cc))) c.loop-pass.yielded c.loop-pass.pass-iterator c.loop-pass.yielded_by _ c.next.new.self c.in-None.is c.next.ensures.steps in
    c.loop-pass.invariant.passes ∙ ap (map (λ pair. pair.0)) (sym (map-id _) ∙ over.0) ∙ zip_firsts c.args.passes.items c.args.terminals.items c.requires

pub returns-clause-terminals : goal.returns-clause-terminals
returns-clause-terminals g c =
    let over = YieldsList-end (YieldsList-from_zip (YieldsList-from_vec c.args.passes.items (cc) (cc)) (YieldsList-from_vec c.args.terminals.items (cc) (cc))) c.loop-pass.yielded c.loop-pass.pass-iterator c.loop-pass.yielded_by _ c.next.new.self c.in-None.is c.next.ensures.steps in
    c.loop-pass.invariant.terminals ∙ ap (map (λ pair. pair.1)) (sym (map-id _) ∙ over.0) ∙ zip_seconds c.args.passes.items c.args.terminals.items c.requires
