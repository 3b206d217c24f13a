use Rattle.rd_view.proofs.Prelude.{◌≡◌, map, AllByRecursion}
use Rattle.rd_view.proofs.live.live_tasks.Given as goal

-- the tasks so far
abbrev pub invariant-loop-pass : goal.invariant-loop-pass
invariant-loop-pass g l = record {
  desks : AllByRecursion (λ task. task.desk.now ≡ l.desk) l.tasks.items;
  passes : map (λ task. task.pass) l.tasks.items ≡ map (λ pair. pair.0) l.yielded;
  terminals : map (λ task. task.terminal.value) l.tasks.items ≡ map (λ pair. pair.1) l.yielded;
}
