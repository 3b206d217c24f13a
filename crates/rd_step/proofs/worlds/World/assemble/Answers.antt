use Rattle.std.proofs.Common.{arith}
use Rattle.rd_step.proofs.Prelude.{sym, ◌∙◌, subst, IsWellFormed}
use Rattle.rd_step.proofs.Assembled.{assembled, lists_right, parts_make}
use Rattle.rd_step.proofs.worlds.World.assemble.Goals as goal

pub invariant_of-result-clause-makers : goal.invariant_of-result-clause-makers
invariant_of-result-clause-makers g c = grind (arith, lists_right)

pub invariant_of-result-clause-well_formed : goal.invariant_of-result-clause-well_formed
invariant_of-result-clause-well_formed g c =
    subst IsWellFormed (sym (parts_make c.args.parts c.in-Ok.space c.in-Ok.ensures.ok)) (assembled g.row.R c.args.parts (sym c.first_flaw.ensures ∙ c.in_default.is))

pub returns-in-Ok-clause-ok : goal.returns-in-Ok-clause-ok
returns-in-Ok-clause-ok g c = parts_make c.args.parts c.in-Ok.space c.in-Ok.ensures.ok
