-- Each `put` adds one member to those before it, with the value of one part of the actor.
use Rattle.rd_trace.proofs.Prelude.{rules, ◌≡◌, codes, ap, ap₂, ◌∙◌, arith, object, put, view, members_view, view-Object, val_data}
use Rattle.rd_trace.proofs.ActorLemmas.{actor_spelled}
use Rattle.rd_trace.proofs.actors.actor_json.Goals as goal

pub returns-clause-value : goal.returns-clause-value
returns-clause-value c =
    let val : view c.from-6.result ≡ val_data c.args.actor.now.val = search (rules, c.from-6.ensures) in
    view-Object c.put-12.new.map ∙ ap object
    (c.in_ok-put-12.ensures.ok ∙ ap₂ (put (codes "val")) val
    (c.in_ok-put-11.ensures.ok ∙ ap₂ (put (codes "t")) c.from-5.ensures
    (c.in_ok-put-10.ensures.ok ∙ ap₂ (put (codes "safe")) c.from-4.ensures
    (c.in_ok-put-9.ensures.ok ∙ ap₂ (put (codes "pc")) c.in_ok-pc_json.ensures
    (c.in_ok-put-8.ensures.ok ∙ ap₂ (put (codes "pass")) c.pass_json.ensures.value
    (c.in_ok-put-7.ensures.ok ∙ ap₂ (put (codes "op")) c.in_ok-op_json.ensures
    (c.in_ok-put-6.ensures.ok ∙ ap₂ (put (codes "next")) c.in_ok-segment_name_json-3.ensures.value
    (c.in_ok-put-5.ensures.ok ∙ ap₂ (put (codes "new")) c.in_ok-segment_name_json-2.ensures.value
    (c.in_ok-put-4.ensures.ok ∙ ap₂ (put (codes "idx")) c.from-3.ensures
    (c.in_ok-put-3.ensures.ok ∙ ap₂ (put (codes "h")) c.from-2.ensures
    (c.in_ok-put-2.ensures.ok ∙ ap₂ (put (codes "crq")) c.in_ok-segment_name_json.ensures.value
    (c.in_ok-put.ensures.ok ∙ ap₂ (put (codes "closed")) c.from.ensures (ap members_view c.new-members.ensures.empty)))))))))))))

pub returns-clause-spelled : goal.returns-clause-spelled
returns-clause-spelled c = grind (arith, actor_spelled)
