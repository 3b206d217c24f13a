-- How the runs of viewers end, where each viewer asks a list of commands. A viewer is its pass
-- (`.0`) with its commands (`.1`). `takes` says which passes the gate takes, and `told` what the
-- gate states of a call: from the pass before, the command, the answer and the pass after.
use Rattle.std.specs.Prelude.{◌≡◌, List, [], ◌∷◌, Option, Some, None, Vec}
use Rattle.std.specs.declared.alloc.Global.{Global}
use Rattle.rd_marks.specs.declared.commands.Command.{Command}
use Rattle.rd_desk.specs.Histories.{Answer}
use Rattle.rd_desk.specs.declared.viewers.Ran.{Ran}
use Rattle.rd_desk.specs.declared.viewers.Ran.TheVariants as outcome

module _ {P : Type 0} where
  -- the commands were asked one after another, with one answer each. R relates what the viewer has
  -- before a command (its pass, or the history that it has seen), the command, its answer and what
  -- it has after that. This leads from `first` to `last`
  abbrev pub IsChain : (P → Command → Answer → P → Type 0) → P → List Command → List Answer → P → Type 0
  IsChain R first [] [] last = last ≡ first
  IsChain R first [] (answer ∷ answers) last = ⊥
  IsChain R first (c ∷ cs) [] last = ⊥
  IsChain R first (c ∷ cs) (answer ∷ answers) last = (next : P) × R first c answer next × IsChain R next cs answers last

  -- what a viewer's closure gives back: the pass as it was, with None, if it asked nothing;
  -- otherwise the pass after all commands, with their answers. The gate takes this pass in both
  -- cases
  abbrev pub IsDone : {Z : Type 0} → (P → Type 0) → (P → Command → Answer → P → Type 0) → P → List Command → P × Option (Vec Answer Z) → Type 0
  IsDone takes told first commands (last, None) = takes last × (last ≡ first)
  IsDone takes told first commands (last, Some answers) = takes last × IsChain told first commands answers.items last

  -- how the run of a viewer ended. At `NoMemory` its thread was refused, and nothing more is
  -- stated. Otherwise its commands were asked one after another with these answers, and the gate
  -- takes the pass that it has then
  abbrev pub IsRunEnding : {Z : Type 0} → (P → Type 0) → (P → Command → Answer → P → Type 0) → P × Vec Command Z → Ran P → Type 0
  IsRunEnding takes told viewer outcome.NoMemory = Unit {0}
  IsRunEnding takes told viewer (outcome.Answered pass answers) = IsDone takes told viewer.0 viewer.1.items (pass, Some answers)

  -- how the run of a viewer ended, from what it gave back
  abbrev pub run_ending : P × Option (Vec Answer Global) → Ran P
  run_ending (pass, Some answers) = outcome.Answered pass answers
  run_ending (pass, None) = outcome.NoMemory
