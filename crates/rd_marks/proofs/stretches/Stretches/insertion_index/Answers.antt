use Rattle.rd_marks.proofs.Prelude.{◌≡◌, ◌⊎◌, ◌+◌, ◌<◌, suc, arith, shared_at}
use Rattle.rd_marks.proofs.StretchLists.{shared_past}
use Rattle.rd_marks.proofs.Reading.{reaches_on, reaches_end}
use Rattle.rd_marks.proofs.stretches.Stretches.insertion_index.Goals.{else-shared_count-at-via-then-shared_count-at+else-i-at, else-shared_count-at-via-else-shared_count-at}
use Rattle.rd_marks.proofs.stretches.Stretches.insertion_index.Goals as goal

pub loop-i-preserved : goal.loop-i-preserved
loop-i-preserved c =
    let which : (c.args.at.stretch ≡ c.loop-i.i) ⊎ (c.args.at.number < shared_at c.args.self.now.list.items c.loop-i.i) =
    grind (arith, else-shared_count-at-via-then-shared_count-at+else-i-at, else-shared_count-at-via-else-shared_count-at) in
    let on = reaches_on c.args.self.now.list.items c.args.self.now.nested c.args.at c.requires c.loop-i.i which c.loop-i.invariant.reaches c.loop-i.invariant.high in
    let e : c.loop-i.i + 1 ≡ suc c.loop-i.i = omega arith in
    record { high = omega (arith, c.loop-i.invariant.high); reaches = λ h. rw e on }

pub returns-clause-shares : goal.returns-clause-shares
returns-clause-shares c = omega (arith, shared_past c.args.self.now.list.items c.len.result (omega (arith, c.len.ensures)))

pub returns-clause-within : goal.returns-clause-within
returns-clause-within c =
    (reaches_end c.args.self.now.list.items c.args.self.now.nested c.args.at c.requires c.loop-i.i c.len.result (omega (arith, c.len.ensures))
    (λ inside. omega (arith, inside, c.loop-i-test.false, c.loop-i.auto.i, c.loop-i.auto.i-end, c.len.ensures, c.len-i-end.ensures, c.loop-i.invariant.high)) c.loop-i.invariant.reaches).enough

pub returns-clause-same : goal.returns-clause-same
returns-clause-same c =
    (reaches_end c.args.self.now.list.items c.args.self.now.nested c.args.at c.requires c.loop-i.i c.len.result (omega (arith, c.len.ensures))
    (λ inside. omega (arith, inside, c.loop-i-test.false, c.loop-i.auto.i, c.loop-i.auto.i-end, c.len.ensures, c.len-i-end.ensures, c.loop-i.invariant.high)) c.loop-i.invariant.reaches).same
