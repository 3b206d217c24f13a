use Rattle.rd_view.proofs.Prelude.{◌≡◌, map, pass_of, viewer_end}
use Rattle.rd_view.proofs.live.passes_and_ends.Given as goal

-- the passes and the ends so far
abbrev pub invariant-loop-done : goal.invariant-loop-done
invariant-loop-done g l = record {
  passes : l.passes.items ≡ map (pass_of (λ task. task.pass)) l.yielded;
  ends : l.ends.items ≡ map viewer_end l.yielded;
}
