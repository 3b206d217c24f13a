-- The entry is the one that its event's step leaves here, so it has the actor's record and the
-- access's answer. An access that wrote nothing leaves all places as they are (`read_again`). Any
-- other is done again as in the step, which isn't refused (`access_again`).
use Rattle.rd_step.proofs.Prelude.{sym, arith, is_make, model, uses_too}
use Rattle.rd_step.proofs.Keeps.{step_keeps_well_formed}
use Rattle.rd_step.proofs.MadeAgain.{leaves, not_refused, read_again, access_again}
use Rattle.rd_step.proofs.WorldLemmas.{needs_by, may_perform, makes_by}
use Rattle.rd_step.proofs.worlds.World.step_again.Goals as goal

pub unreachable-requires : goal.unreachable-requires
unreachable-requires g c =
    let self = c.args.self.now in
    let x = c.args.entry.now in
    let l = leaves (model self) c.requires.goes.0 x c.requires.goes.1 in
    let needs = needs_by self x.event x.old_actor _ l.has c.need.ensures in
    cc (l.needs, needs)

pub perform-requires : goal.perform-requires
perform-requires g c =
    let self = c.args.self.now in
    let x = c.args.entry.now in
    let has = (leaves (model self) c.requires.goes.0 x c.requires.goes.1).has in
    (omega arith, may_perform self x.event x.old_actor c.in-Ok.access has (needs_by self x.event x.old_actor _ has c.in-Ok.ensures))

pub invariant_of-self-clause-well_formed : goal.invariant_of-self-clause-well_formed
invariant_of-self-clause-well_formed g c =
    let self = c.args.self.now in
    let x = c.args.entry.now in
    let l = leaves (model self) c.requires.goes.0 x c.requires.goes.1 in
    let needs = needs_by self x.event x.old_actor _ l.has c.in-Ok.ensures in
    step_keeps_well_formed (model self) x.event _ self.well_formed
    (access_again _ self.space c.perform.new.space self.actors.items c.set_actor.new.actors.items c.requires.goes.0 x c.after.result c.in-Ok.access
    c.perform.result c.requires.goes.1 c.requires.room c.after.ensures c.set_actor.ensures.done needs c.perform.ensures.ok c.perform.ensures.err)

pub unreachable-requires-in-Err : goal.unreachable-requires-in-Err
unreachable-requires-in-Err g c =
    let self = c.args.self.now in
    let x = c.args.entry.now in
    let l = leaves (model self) c.requires.goes.0 x c.requires.goes.1 in
    let needs = needs_by self x.event x.old_actor _ l.has c.in-Ok.ensures in
    not_refused _ self.space self.actors.items c.requires.goes.0 x c.in-Ok.access c.in-Err.field-0 c.requires.goes.1
    needs c.requires.room c.in-Err.ensures.err

pub invariant_of-self-else-not-is_nothing-clause-well_formed : goal.invariant_of-self-else-not-is_nothing-clause-well_formed
invariant_of-self-else-not-is_nothing-clause-well_formed g c =
    let self = c.args.self.now in
    step_keeps_well_formed (model self) c.args.entry.now.event _ self.well_formed
    (read_again _ self.space self.actors.items c.set_actor.new.actors.items c.requires.goes.0 c.args.entry.now c.after.result
    c.requires.goes.1 c.after.ensures c.set_actor.ensures.done (sym c.if-not-is_nothing.ensures))

pub returns-in-Ok-perform-clause-done : goal.returns-in-Ok-perform-clause-done
returns-in-Ok-perform-clause-done g c =
    let self = c.args.self.now in
    let x = c.args.entry.now in
    let l = leaves (model self) c.requires.goes.0 x c.requires.goes.1 in
    let needs = needs_by self x.event x.old_actor _ l.has c.in-Ok.ensures in
    access_again _ self.space c.perform.new.space self.actors.items c.set_actor.new.actors.items c.requires.goes.0 x c.after.result c.in-Ok.access
    c.perform.result c.requires.goes.1 c.requires.room c.after.ensures c.set_actor.ensures.done needs c.perform.ensures.ok c.perform.ensures.err

pub returns-in-Ok-perform-clause-room : goal.returns-in-Ok-perform-clause-room
returns-in-Ok-perform-clause-room g c =
    let self = c.args.self.now in
    let x = c.args.entry.now in
    let l = leaves (model self) c.requires.goes.0 x c.requires.goes.1 in
    uses_too _ _ (is_make c.in-Ok.access) _ x.event.actor _ _
    (makes_by (model self) x.event x.old_actor c.in-Ok.access l.has (needs_by self x.event x.old_actor _ l.has c.in-Ok.ensures)) c.in-Ok-perform.ensures.room

pub returns-else-not-is_nothing-clause-done : goal.returns-else-not-is_nothing-clause-done
returns-else-not-is_nothing-clause-done g c =
    let self = c.args.self.now in
    read_again _ self.space self.actors.items c.set_actor.new.actors.items c.requires.goes.0 c.args.entry.now c.after.result
    c.requires.goes.1 c.after.ensures c.set_actor.ensures.done (sym c.if-not-is_nothing.ensures)
