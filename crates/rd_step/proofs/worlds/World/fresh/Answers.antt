use Rattle.rd_step.proofs.Prelude.{subst, sym, arith, idle, IsWellFormed}
use Rattle.rd_step.proofs.Starts.{fields_make, fresh_formed}
use Rattle.rd_step.proofs.worlds.World.fresh.Goals as goal

pub invariant_of-result-clause-well_formed : goal.invariant_of-result-clause-well_formed
invariant_of-result-clause-well_formed g c =
    subst IsWellFormed
    (sym (fields_make c.in_ok-space.space c.loop.list.items (λ n. idle) c.args.actors c.in_ok-space.ensures.ok (omega arith) (λ n h. c.loop.invariant.2 n (omega arith))))
    (fresh_formed g.row.R c.args.actors c.requires.some c.requires.few)

pub returns-clause-ok : goal.returns-clause-ok
returns-clause-ok g c =
    fields_make c.in_ok-space.space c.loop.list.items (λ n. idle) c.args.actors c.in_ok-space.ensures.ok (omega arith) (λ n h. c.loop.invariant.2 n (omega arith))
