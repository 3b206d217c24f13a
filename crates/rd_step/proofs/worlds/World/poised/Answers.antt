use Rattle.rd_step.proofs.Prelude.{subst, sym, arith, poised, IsWellFormed}
use Rattle.rd_step.proofs.Starts.{fields_make, poised_formed}
use Rattle.rd_step.proofs.worlds.World.poised.Goals as goal

pub invariant_of-result-clause-well_formed : goal.invariant_of-result-clause-well_formed
invariant_of-result-clause-well_formed g c =
    subst IsWellFormed
    (sym (fields_make c.in_ok-space.space c.loop-number.list.items poised c.args.actors c.in_ok-space.ensures.ok (omega arith) (λ n h. c.loop-number.invariant.2 n (omega arith))))
    (poised_formed g.row.R c.args.actors c.requires.some c.requires.few)

pub returns-clause-ok : goal.returns-clause-ok
returns-clause-ok g c =
    fields_make c.in_ok-space.space c.loop-number.list.items poised c.args.actors c.in_ok-space.ensures.ok (omega arith) (λ n h. c.loop-number.invariant.2 n (omega arith))
