use Rattle.std.proofs.Common.{◌≡◌, ◌-◌, true, false, sym, ◌∙◌, arith}
use Rattle.std.proofs.lemmas.Fn.{says_at}
use Rattle.rd_origin.proofs.Search.{found_there, passed_there}
use Rattle.rd_origin.proofs.searches.last_below.Goals as goal

pub returns-then-test : goal.returns-then-test
returns-then-test g c = λ passes decides.
    let passed = sym (decides c.in-Some.step.now true (says_at g.F.Fn c.test.ensures c.if-test.true)) in
    sym (c.loop-number.invariant passes decides ∙ found_there passes c.args.steps.now (c.loop-number.number - 1) c.in-Some.step.now c.in-Some.ensures passed)

pub loop-number-preserved : goal.loop-number-preserved
loop-number-preserved g c = λ passes decides.
    let failed : passes c.in-Some.step.now ≡ false = sym (decides c.in-Some.step.now false (says_at g.F.Fn c.test.ensures c.if-test.false)) in
    c.loop-number.invariant passes decides
    ∙ passed_there passes c.args.steps.now (c.loop-number.number - 1) (λ x h. grind (arith, failed, h, c.in-Some.ensures))
