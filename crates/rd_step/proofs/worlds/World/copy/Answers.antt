use Rattle.std.proofs.Common.{◌∙◌}
use Rattle.rd_step.proofs.worlds.World.copy.Goals as goal

pub returns-in-Ok-clause-ok : goal.returns-in-Ok-clause-ok
returns-in-Ok-clause-ok g c = c.in-Ok.ensures.ok ∙ c.in_ok-parts.ensures.ok
