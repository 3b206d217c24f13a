use Rattle.rd_depend.proofs.Prelude.{[], sym, ◌∙◌, arith, length-append, length-take-le, slice_get-get_or}
use Rattle.rd_depend.proofs.IndexChanges.{one_added, room_next}
use Rattle.rd_depend.proofs.Results.{ok_then, not_refused}
use Rattle.rd_depend.proofs.index.DependIndex.push_until_refused.Goals as goal

pub push-requires : goal.push-requires
push-requires c = grind (arith, length-append, length-take-le)

pub loop-count-preserved : goal.loop-count-preserved
loop-count-preserved c =
    one_added c.args.self.now c.loop-count.self c.push.new.self c.args.entries.now c.loop-count.count _
    (slice_get-get_or c.args.entries.now c.loop-count.count _ c.loop-count-test.true) c.loop-count.invariant
    (ok_then c.push.result _ (sym c.is_err.ensures.value ∙ c.if-is_err.false) c.push.ensures.ok)
    (ok_then c.push.result _ (sym c.is_err.ensures.value ∙ c.if-is_err.false) c.push.ensures.room)

pub returns-then-is_err-clause-succeeds : goal.returns-then-is_err-clause-succeeds
returns-then-is_err-clause-succeeds c = λ has.
    absurd (not_refused c.push.result (sym c.is_err.ensures.value ∙ c.if-is_err.true)
    (c.push.ensures.succeeds []
    (room_next c.args.self.now c.loop-count.self c.args.entries.now c.loop-count.count _
    (slice_get-get_or c.args.entries.now c.loop-count.count _ c.loop-count-test.true) has c.loop-count.invariant)))
