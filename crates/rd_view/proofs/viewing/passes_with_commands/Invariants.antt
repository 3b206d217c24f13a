use Rattle.rd_view.proofs.Prelude.{◌≡◌, map, take, length, commands_of}
use Rattle.rd_view.proofs.viewing.passes_with_commands.Given as goal

-- the viewers so far
abbrev pub invariant-loop-pass : goal.invariant-loop-pass
invariant-loop-pass g l = record {
  passes : map (λ viewer. viewer.0) l.work.items ≡ l.yielded;
  commands : map (λ viewer. viewer.1.items) l.work.items ≡ map (λ lines. commands_of lines.items) (take (length l.yielded) l.said);
}
