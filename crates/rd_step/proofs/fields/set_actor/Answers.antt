use Rattle.rd_step.proofs.WorldLemmas.{set_record}
use Rattle.rd_step.proofs.fields.set_actor.Goals as goal

pub returns-clause-done : goal.returns-clause-done
returns-clause-done c = set_record c.args.actors.now.items c.args.number c.from.result c.args.words c.from.ensures c.requires
