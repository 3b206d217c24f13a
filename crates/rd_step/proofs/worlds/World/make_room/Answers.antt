use Rattle.rd_step.proofs.Prelude.{sym, subst, arith, IsWellFormed}
use Rattle.rd_step.proofs.WorldLemmas.{some_maker, same_world}
use Rattle.rd_step.proofs.worlds.World.make_room.Goals as goal

pub make_room-requires : goal.make_room-requires
make_room-requires g c = grind (arith, some_maker)

pub invariant_of-self-clause-well_formed : goal.invariant_of-self-clause-well_formed
invariant_of-self-clause-well_formed g c =
    subst IsWellFormed
    (sym (same_world c.args.self.now.space c.make_room.new.self c.args.self.now.actors.items c.make_room.ensures.unchanged)) c.args.self.now.well_formed

pub returns-clause-unchanged : goal.returns-clause-unchanged
returns-clause-unchanged g c = same_world c.args.self.now.space c.make_room.new.self c.args.self.now.actors.items c.make_room.ensures.unchanged

pub returns-in_err-make_room-clause-unchanged : goal.returns-in_err-make_room-clause-unchanged
returns-in_err-make_room-clause-unchanged g c =
    same_world c.args.self.now.space c.make_room.new.self c.args.self.now.actors.items c.make_room.ensures.unchanged
