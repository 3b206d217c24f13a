use Rattle.rd_depend.proofs.Prelude.{◌≡◌, ◌-◌, ◌<◌, suc, length, arith, slice_get-get_or}
use Rattle.rd_depend.proofs.IndexChanges.{last_left, one_dropped}
use Rattle.rd_depend.proofs.index.DependIndex.pop_all.Goals as goal

pub pop-requires : goal.pop-requires
pop-requires c =
    let n = c.loop-left.left - 1 in
    let next : c.loop-left.left ≡ suc n = omega arith in
    let within : n < length c.args.entries.now = omega arith in
    last_left c.args.self.now c.loop-left.self c.args.entries.now c.loop-left.left n _ next (slice_get-get_or c.args.entries.now n _ within) c.requires c.loop-left.invariant.dropped

pub loop-left-preserved : goal.loop-left-preserved
loop-left-preserved c = grind (arith, one_dropped, slice_get-get_or)
