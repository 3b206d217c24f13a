use Rattle.rd_depend.proofs.IndexChanges.{HasAdded}
use Rattle.rd_depend.proofs.index.DependIndex.push_until_refused.Given as goal

abbrev pub invariant-loop-count : goal.invariant-loop-count
invariant-loop-count l = HasAdded l.fn.self l.self l.entries l.count
