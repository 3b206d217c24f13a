use Rattle.std.proofs.Common.{sym, ◌∙◌, subst, arith}
use Rattle.rd_step.specs.World.{World}
use Rattle.rd_step.specs.Laws.{IsTakenOut}
use Rattle.rd_step.specs.Prelude.{model}
use Rattle.rd_step.proofs.Removal.{can_undo, taken_out}
use Rattle.rd_inverse.proofs.Reading.{undone_by_words}
use Rattle.rd_inverse.proofs.inverse.unstep.Goals as goal

pub revert-requires : goal.revert-requires
revert-requires g c =
    let was = c.requires in
    (omega (arith, c.args.world.now.small), ((can_undo _ _ was).actor_there, (tt, (undone_by_words _ _ was (sym c.if-is_nothing.ensures)).formed)))

pub revert-requires-else-is_nothing : goal.revert-requires-else-is_nothing
revert-requires-else-is_nothing g c =
    let can = can_undo _ _ c.requires in
    (omega (arith, c.args.world.now.small), (can.actor_there, (can.place_there, can.formed)))

pub returns-then-is_nothing-clause-back : goal.returns-then-is_nothing-clause-back
returns-then-is_nothing-clause-back g c =
    c.revert.ensures.done ∙ (undone_by_words _ _ c.requires (sym c.if-is_nothing.ensures)).same

pub returns-then-is_nothing-clause-taken_out : goal.returns-then-is_nothing-clause-taken_out
returns-then-is_nothing-clause-taken_out g c = λ was.
    subst (λ (w : World). IsTakenOut (model c.args.world.now) w c.args.entry.now was) (sym (returns-then-is_nothing-clause-back g c))
    (taken_out (model c.args.world.now) c.args.entry.now was)

pub returns-then-is_nothing-clause-room : goal.returns-then-is_nothing-clause-room
returns-then-is_nothing-clause-room g c =
    let none = (undone_by_words _ _ c.requires (sym c.if-is_nothing.ensures)).room in
    record { makers = c.revert.ensures.room.makers; returns = λ m. let is = none m in let stays = c.revert.ensures.room.returns m in omega arith }

pub returns-else-is_nothing-clause-taken_out : goal.returns-else-is_nothing-clause-taken_out
returns-else-is_nothing-clause-taken_out g c = λ was.
    subst (λ (w : World). IsTakenOut (model c.args.world.now) w c.args.entry.now was) (sym c.revert-else-is_nothing.ensures.done)
    (taken_out (model c.args.world.now) c.args.entry.now was)
