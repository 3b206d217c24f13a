use Rattle.rd_lock.proofs.Prelude.{◌≡◌, [], ◌++◌, map, vec_len, AllByRecursion, IsOut, Out, pass_view}
use Rattle.rd_lock.proofs.tables.close_table.Given as goal

abbrev pub invariant-loop-pass : goal.invariant-loop-pass
invariant-loop-pass g l = record {
  table : l.seat.table_id ≡ l.table.shared.table_id;
  out : l.seat.me.0.stage ≡ Out;
  hand : l.seat.me.1 ≡ [];
  own : AllByRecursion (λ pass. pass.seat.table_id ≡ l.table.shared.table_id) l.passes.items;
  each_out : AllByRecursion IsOut l.passes.items;
  members : map pass_view l.passes.items ++ l.seat.me.0.members ≡ map pass_view l.fn.passes.items;
}

abbrev pub decreases-loop-pass : goal.decreases-loop-pass
decreases-loop-pass g l = vec_len l.passes
