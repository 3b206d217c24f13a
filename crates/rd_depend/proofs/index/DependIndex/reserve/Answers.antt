use Rattle.rd_depend.proofs.Prelude.{◌<◌, ◌≤◌, length, arith, false≢true, spare_at, spare_in, By}
use Rattle.rd_depend.proofs.IndexKeys.{in_place, in_value, in_segment}
use Rattle.rd_depend.proofs.IndexChanges.{within_spare, touched_by, spare_under, ready_kept}
use Rattle.rd_depend.proofs.index.DependIndex.reserve.Goals as goal

pub returns-in_err-grow_to-clause-succeeds : goal.returns-in_err-grow_to-clause-succeeds
returns-in_err-grow_to-clause-succeeds c = λ h.
    let x = c.args.entry.now in
    let lists = c.args.self.now.by_actor.items in
    let there : x.event.actor < length lists = within_spare lists x.event.actor (h (By x.event.actor) (touched_by x)) in
    absurd (false≢true (c.in_err-grow_to.ensures.succeeds (omega arith)))

pub returns-in_err-reserve_at-clause-succeeds : goal.returns-in_err-reserve_at-clause-succeeds
returns-in_err-reserve_at-clause-succeeds c = λ h.
    let x = c.args.entry.now in
    let had : 0 < spare_at c.args.self.now.by_actor.items x.event.actor = h (By x.event.actor) (touched_by x) in
    let more : spare_at c.args.self.now.by_actor.items x.event.actor ≤ spare_at c.grow_to.new.lists.items x.event.actor = c.grow_to.ensures.room x.event.actor in
    let has : 0 < spare_at c.grow_to.new.lists.items x.event.actor = omega arith in
    absurd (false≢true (c.in_err-reserve_at.ensures.succeeds (rw c.from-actor.ensures has)))

pub returns-in_err-place-clause-succeeds : goal.returns-in_err-place-clause-succeeds
returns-in_err-place-clause-succeeds c = λ h.
    let homes = c.args.homes.now in
    absurd (false≢true (c.in_err-place.ensures.succeeds (λ w k e n.
    spare_under c.args.self.now c.args.entry.now homes c.requires h w k (in_place homes w k e n))))

pub returns-in_err-value-clause-succeeds : goal.returns-in_err-value-clause-succeeds
returns-in_err-value-clause-succeeds c = λ h.
    let homes = c.args.homes.now in
    absurd (false≢true (c.in_err-value.ensures.succeeds (λ w k e n.
    let had : 0 < spare_in c.args.self.now.by_key w k = spare_under c.args.self.now c.args.entry.now homes c.requires h w k (in_value homes w k e n) in
    omega (arith, c.in_ok-place.ensures.same.room w k))))

pub returns-in_err-segment-clause-succeeds : goal.returns-in_err-segment-clause-succeeds
returns-in_err-segment-clause-succeeds c = λ h.
    let homes = c.args.homes.now in
    absurd (false≢true (c.in_err-segment.ensures.succeeds (λ w k e n.
    let had : 0 < spare_in c.args.self.now.by_key w k = spare_under c.args.self.now c.args.entry.now homes c.requires h w k (in_segment homes w k e n) in
    omega (arith, c.in_ok-place.ensures.same.room w k, c.in_ok-value.ensures.same.room w k))))

pub returns-clause-ready : goal.returns-clause-ready
returns-clause-ready c = grind (arith, ready_kept)
