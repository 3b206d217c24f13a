-- The code makes the step in the order of its definition: it finds the actor, asks for the access,
-- does it, and goes on with the answer. Whatever refuses comes before the first change, and a step
-- leads from a well-formed world to a well-formed one (`step_keeps_well_formed`).
use Rattle.rd_step.proofs.Prelude.{◌∙◌, sym, subst, inl, arith, is_make, model, world_of_fields, IsWellFormed, uses_passed_up, uses_too}
use Rattle.rd_step.proofs.PassedUp.{error_passed_up, fact_passed_up}
use Rattle.rd_step.proofs.Steps.{step-refused_by_need}
use Rattle.rd_step.proofs.Keeps.{step_keeps_well_formed}
use Rattle.rd_step.proofs.WorldLemmas.{needs_by, may_perform, step_refuses, step_goes, makes_by, same_world}
use Rattle.rd_step.proofs.worlds.World.step.Goals as goal

pub returns-in_err-access-clause-err : goal.returns-in_err-access-clause-err
returns-in_err-access-clause-err g c =
    let self = c.args.self.now in
    let needs = needs_by self c.args.event c.in-Some.actor _ (sym c.in-Some.ensures) c.in_err-access.ensures in
    error_passed_up _ c.in_err-access.field-0.0 c.from_residual.result c.from_residual.ensures.1
    (inl (step-refused_by_need (world_of_fields self.space self.actors.items) c.args.event c.in-Some.actor c.in_err-access.field-0.0
    (sym c.in-Some.ensures) needs))

pub perform-requires : goal.perform-requires
perform-requires g c =
    let self = c.args.self.now in
    let has = sym c.in-Some.ensures in
    (omega arith, may_perform self c.args.event c.in-Some.actor c.in_ok-access.access has (needs_by self c.args.event c.in-Some.actor _ has c.in_ok-access.ensures))

pub invariant_of-self : goal.invariant_of-self
invariant_of-self g c =
    let self = c.args.self.now in
    record {
      positive = self.positive;
      small = self.small;
      makers = c.in_err-done.ensures.room.makers ∙ self.makers;
      well_formed = subst IsWellFormed (sym (same_world self.space c.perform.new.space self.actors.items c.in_err-done.ensures.unchanged)) self.well_formed;
    }

pub returns-in_err-done-clause-err : goal.returns-in_err-done-clause-err
returns-in_err-done-clause-err g c =
    let self = c.args.self.now in
    let needs = needs_by self c.args.event c.in-Some.actor _ (sym c.in-Some.ensures) c.in_ok-access.ensures in
    error_passed_up _ c.in_err-done.field-0.0 c.from_residual-in_err-done.result c.from_residual-in_err-done.ensures.1
    (step_refuses _ self.space self.actors.items c.args.event c.in-Some.actor c.in_ok-access.access c.in_err-done.field-0.0
    (sym c.in-Some.ensures) needs c.in_err-done.ensures.err)

pub returns-in_err-done-clause-unchanged : goal.returns-in_err-done-clause-unchanged
returns-in_err-done-clause-unchanged g c =
    fact_passed_up c.from_residual-in_err-done.result
    (same_world c.args.self.now.space c.perform.new.space c.args.self.now.actors.items c.in_err-done.ensures.unchanged)

pub returns-in_err-done-clause-room : goal.returns-in_err-done-clause-room
returns-in_err-done-clause-room g c =
    let has = sym c.in-Some.ensures in
    uses_passed_up c.in_err-done.field-0.0 c.from_residual-in_err-done.result (is_make c.in_ok-access.access) _ c.args.event.actor _ _
    (makes_by (model c.args.self.now) c.args.event c.in-Some.actor c.in_ok-access.access has (needs_by c.args.self.now c.args.event c.in-Some.actor _ has c.in_ok-access.ensures))
    c.from_residual-in_err-done.ensures.1 c.in_err-done.ensures.room

pub invariant_of-self-2-clause-well_formed : goal.invariant_of-self-2-clause-well_formed
invariant_of-self-2-clause-well_formed g c =
    let self = c.args.self.now in
    let needs = needs_by self c.args.event c.in-Some.actor _ (sym c.in-Some.ensures) c.in_ok-access.ensures in
    step_keeps_well_formed (model self) c.args.event _ self.well_formed
    (step_goes _ self.space c.perform.new.space self.actors.items c.set_actor.new.actors.items c.args.event c.in-Some.actor
    c.in_ok-access.access c.in_ok-done.done c.after-reply.result
    (sym c.in-Some.ensures) needs c.in_ok-done.ensures.ok c.after-reply.ensures c.set_actor.ensures.done)

pub returns-clause-ok : goal.returns-clause-ok
returns-clause-ok g c =
    let self = c.args.self.now in
    let needs = needs_by self c.args.event c.in-Some.actor _ (sym c.in-Some.ensures) c.in_ok-access.ensures in
    step_goes _ self.space c.perform.new.space self.actors.items c.set_actor.new.actors.items c.args.event c.in-Some.actor
    c.in_ok-access.access c.in_ok-done.done c.after-reply.result
    (sym c.in-Some.ensures) needs c.in_ok-done.ensures.ok c.after-reply.ensures c.set_actor.ensures.done

pub returns-clause-room : goal.returns-clause-room
returns-clause-room g c =
    let has = sym c.in-Some.ensures in
    uses_too c.in_ok-done.done _ (is_make c.in_ok-access.access) _ c.args.event.actor _ _
    (makes_by (model c.args.self.now) c.args.event c.in-Some.actor c.in_ok-access.access has (needs_by c.args.self.now c.args.event c.in-Some.actor _ has c.in_ok-access.ensures))
    c.in_ok-done.ensures.room
