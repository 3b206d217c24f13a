use Rattle.rd_trace.proofs.Prelude.{sym, ap, ◌∙◌, Start, start_world, start_flaw}
use Rattle.rd_trace.proofs.replay.world_of.Goals as goal

pub returns-in-Ok : goal.returns-in-Ok
returns-in-Ok g c = (
  ap (λ (s : Start g.row.R). start_flaw s) c.in-Fresh.is,
  c.in-Ok.ensures.ok ∙ sym (ap (λ (s : Start g.row.R). start_world s) c.in-Fresh.is),
)

pub returns-in-Ok-assemble : goal.returns-in-Ok-assemble
returns-in-Ok-assemble g c = (
  ap (λ (s : Start g.row.R). start_flaw s) c.in-Parts.is ∙ c.in-Ok-assemble.ensures.flawless,
  c.in-Ok-assemble.ensures.ok ∙ sym (ap (λ (s : Start g.row.R). start_world s) c.in-Parts.is),
)
