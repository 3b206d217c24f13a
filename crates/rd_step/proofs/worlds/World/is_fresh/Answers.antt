use Rattle.rd_step.proofs.Prelude.{◌≡◌, List, All, length, sym, ap, subst, Actor, idle, World, second_test_decides, first_test_refutes}
use Rattle.rd_step.proofs.Starts.{idle_actors, all_idle}
use Rattle.rd_step.proofs.worlds.World.is_fresh.Goals as goal

pub returns-then-is_fresh : goal.returns-then-is_fresh
returns-then-is_fresh g c =
    let xs = c.args.self.now.actors.items in
    second_test_decides c.is_fresh.result c.are_idle.result c.is_fresh.ensures c.are_idle.ensures
    (λ at idle_all.
    let same = idle_actors xs (subst (λ (ys : List Actor). All (λ x. x ≡ idle) ys) c.deref.ensures.value idle_all) in
    (length xs, (λ i. record { ring = g.row.R; at = at i; actor = same i })))
    (λ w. subst (λ (ys : List Actor). All (λ x. x ≡ idle) ys) (sym c.deref.ensures.value) (all_idle xs w.0 (ap (λ (x : World). x.actor) w.1))) c.if-is_fresh.true

pub returns-else-is_fresh : goal.returns-else-is_fresh
returns-else-is_fresh g c = first_test_refutes c.is_fresh.result c.is_fresh.ensures (λ w. ap (λ (x : World). x.at) w.1) c.if-is_fresh.false
