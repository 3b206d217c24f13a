use Rattle.rd_marks.proofs.Prelude.{◌≡◌, ◌⊎◌, ◌+◌, ◌≤◌, suc, arith, shared_at, events}
use Rattle.rd_marks.proofs.Fresh.{Follows, along_taken, follows_start, follows_here, follows_stopped}
use Rattle.rd_marks.proofs.Reading.{own_number, step_compared, step_skipped}
use Rattle.rd_marks.proofs.stretches.Stretches.deepest_agreeing_node.Goals.{else-i-at-via-then-i-at+else-shared-at, else-i-at-via-else-i-at, then-shared-at-2, else-shared-at-2}
use Rattle.rd_marks.proofs.stretches.Stretches.deepest_agreeing_node.Goals as goal

pub loop-i-init : goal.loop-i-init
loop-i-init c = grind (arith, along_taken, follows_start, own_number)

pub returns-then-shared-at-clause-deepest : goal.returns-then-shared-at-clause-deepest
returns-then-shared-at-clause-deepest c = grind (arith, follows_stopped)

pub agreement_len-requires-clause-agrees : goal.agreement_len-requires-clause-agrees
agreement_len-requires-clause-agrees c = grind (arith, else-i-at-via-then-i-at+else-shared-at, else-i-at-via-else-i-at, follows_here)

pub loop-i-preserved : goal.loop-i-preserved
loop-i-preserved c =
    let ss = c.args.self.now.list.items in
    let es = events c.args.live.now in
    let inv = c.loop-i.invariant in
    let at = c.loop-i.at in
    let i = c.loop-i.i in
    let next = c.if-shared-at-2.at in
    let e : i + 1 ≡ suc i = omega arith in
    let low : (at.stretch ≡ i) ⊎ (at.number ≤ shared_at ss i) = grind (arith, else-i-at-via-then-i-at+else-shared-at, else-i-at-via-else-i-at) in
    let compared = step_compared ss c.args.self.now.nested c.args.self.now.fresh es i at inv.follows inv.high low in
    let skipped = step_skipped ss c.args.self.now.nested c.args.self.now.fresh es i at inv.follows inv.high inv.own in
    let on : Follows ss es (suc i) next.stretch next.number × (next.stretch ≤ i) =
    elim c.if-shared-at-2.branch [
      | then-shared-at-2 w ↦
          let deeper_node = w.deeper_node-at.ensures in
          rw w.at-is (compared (omega (arith, w.if-shared-at-2.true, c.shared_count-shared.ensures)) w.agreement_len.result w.agreement_len.ensures.more w.agreement_len.ensures.agrees w.agreement_len.ensures.most _ deeper_node.more deeper_node.others)
      | else-shared-at-2 w ↦ rw w.at-is (skipped (omega (arith, w.if-shared-at-2.false, c.shared_count-shared.ensures)))
    ] in
    record { follows = rw e on.0; high = omega (arith, on.1); own = λ here. absurd (omega (arith, here, on.1)) }
