use Rattle.std.proofs.Common.{refl, [], arith}
use Rattle.rd_step.specs.CodeWorld.{model}
use Rattle.rd_step_tests.proofs.inverse.step_and_unstep.Goals as goal

pub unstep-requires : goal.unstep-requires
unstep-requires c = (
  omega arith,
  record {
    start = model c.args.world.now;
    well_formed = c.args.world.now.well_formed;
    event = c.args.event;
    stepped = record { world = model c.step.new.self; entry = c.in_ok-entry.entry };
    goes = c.in_ok-entry.ensures.ok;
    its_entry = refl;
    later = [];
    ran = record { world = model c.step.new.self; entries = [] };
    went_on = refl;
    here = refl;
    free = refl;
  },
)
