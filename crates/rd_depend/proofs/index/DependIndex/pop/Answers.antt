use Rattle.rd_depend.proofs.Prelude.{◌≡◌, ◌+◌, ◌-◌, ◌≤◌, length, arith, rules, DependIndex, list_at, By}
use Rattle.rd_depend.proofs.IndexKeys.{separate, value_other, segment_other, in_place, in_value, in_segment}
use Rattle.rd_depend.proofs.IndexChanges.{dropped, drops, gives_room, last_after, last_len, last_touched, last_under, touched_by}
use Rattle.rd_depend.proofs.index.DependIndex.pop.Goals as goal

pub remove_last_at-requires : goal.remove_last_at-requires
remove_last_at-requires c =
    let x = c.args.entry.now in
    let has : 1 ≤ length (list_at c.args.self.now.by_actor.items x.event.actor) = last_touched c.args.self.now x c.requires (By x.event.actor) (touched_by x) in
    rw c.from.ensures has

pub remove_last-requires : goal.remove_last-requires
remove_last-requires c = search (rules, last_under, in_place, arith)

pub remove_last-requires-2 : goal.remove_last-requires-2
remove_last-requires-2 c = search (rules, separate, last_after, value_other, last_under, in_value, arith)

pub remove_last-requires-3 : goal.remove_last-requires-3
remove_last-requires-3 c = grind (arith, separate, segment_other, last_under, in_segment)

pub returns-clause-left : goal.returns-clause-left
returns-clause-left c = λ es is.
    let len : c.args.self.now.len - 1 + 1 ≡ c.args.self.now.len = omega (arith, last_len c.args.self.now c.args.entry.now c.requires) in
    dropped _ _ c.args.entry.now es
    (drops _ _ c.args.entry.now c.of-homes.result c.remove_last.new.self c.remove_last-2.new.self c.from.result c.of-homes.ensures c.from.ensures
    len c.remove_last_at.ensures.lists c.remove_last_at.ensures.room c.remove_last.ensures c.remove_last-2.ensures c.remove_last-3.ensures) is

pub returns-clause-room : goal.returns-clause-room
returns-clause-room c =
    let old = c.args.self.now in
    let new : DependIndex =
    record { by_actor = c.remove_last_at.new.lists; by_key = c.remove_last-3.new.self; len = old.len - 1; alloc = old.alloc; few = omega (arith, old.few) } in
    let len : old.len - 1 + 1 ≡ old.len = omega (arith, last_len old c.args.entry.now c.requires) in
    gives_room old new c.args.entry.now
    (drops old new c.args.entry.now c.of-homes.result c.remove_last.new.self c.remove_last-2.new.self c.from.result c.of-homes.ensures c.from.ensures
    len c.remove_last_at.ensures.lists c.remove_last_at.ensures.room c.remove_last.ensures c.remove_last-2.ensures c.remove_last-3.ensures)
