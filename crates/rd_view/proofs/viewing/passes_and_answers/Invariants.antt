use Rattle.std.proofs.Common.{◌≡◌, map}
use Rattle.rd_view.proofs.viewing.passes_and_answers.Given as goal

-- the passes and the answers so far
abbrev pub invariant-loop-pass : goal.invariant-loop-pass
invariant-loop-pass g l = record {
  passes : l.passes.items ≡ map (λ done. done.0) l.yielded;
  answered : l.answered.items ≡ map (λ done. done.1) l.yielded;
}
