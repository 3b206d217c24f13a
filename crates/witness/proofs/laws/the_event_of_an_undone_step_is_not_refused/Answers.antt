use Rattle.witness.proofs.RoomLemmas.{undone_not_refused}
use Rattle.witness.proofs.laws.the_event_of_an_undone_step_is_not_refused.Goals as goal

pub returns : goal.returns
returns g c = undone_not_refused c.args.session.now
