use Rattle.rd_depend.proofs.Prelude.{rules, arith, leb, IsPartitionPoint-from_clause, IsPartitionedBy-leb}
use Rattle.rd_depend.proofs.IndexLists.{non_decreasing, number-all, number-none, point-is}
use Rattle.rd_depend.proofs.index.lists.count_up_to.Goals as goal

pub returns-clause-count : goal.returns-clause-count
returns-clause-count c = λ up.
    let parted = IsPartitionedBy-leb (λ p. p) _ c.args.k (non_decreasing 0 _ up) in
    let point = IsPartitionPoint-from_clause (λ p. leb p c.args.k) _ _ c.partition_point.ensures.partitioned parted (λ a r q k. search rules) in
    point-is c.args.k _ _ point c.partition_point.ensures.bound

pub returns-then-len-eq0-clause-count : goal.returns-then-len-eq0-clause-count
returns-then-len-eq0-clause-count c = grind (arith, number-none, number-all)
