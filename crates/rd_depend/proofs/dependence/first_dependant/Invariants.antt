use Rattle.rd_depend.proofs.Prelude.{◌≡◌, ◌+◌, drop, depends, position_from, first_dependant}
use Rattle.rd_depend.proofs.dependence.first_dependant.Given as goal

abbrev pub invariant-loop-later : goal.invariant-loop-later
invariant-loop-later l = first_dependant l.entries l.k ≡ position_from (depends l.entry) (l.later + 1) (drop l.later l.entries)
