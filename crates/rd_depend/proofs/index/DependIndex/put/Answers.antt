use Rattle.std.proofs.Common.{refl, arith}
use Rattle.rd_depend.proofs.IndexKeys.{separate, value_other, segment_other}
use Rattle.rd_depend.proofs.IndexChanges.{adds, ready_after}
use Rattle.rd_depend.proofs.index.DependIndex.put.Goals as goal

pub put-requires : goal.put-requires
put-requires c = (c.args.homes.now.place.key, c.requires.ready.place)

pub put-requires-2 : goal.put-requires-2
put-requires-2 c =
    (c.args.homes.now.value.key, grind arith)

pub put-requires-3 : goal.put-requires-3
put-requires-3 c =
    let h = c.args.homes.now in
    let s = separate h c.args.entry.now c.requires.homes in
    let first = c.put.ensures h.place.key c.requires.ready.place in
    let second = c.put-2.ensures h.value.key (ready_after _ _ h.value.key h.value.wrote h.place _ c.args.rows.value (value_other h s) c.requires.ready.value first) in
    (h.segment.key, grind arith)

pub returns : goal.returns
returns c =
    let h = c.args.homes.now in
    let s = separate h c.args.entry.now c.requires.homes in
    let first = c.put.ensures h.place.key c.requires.ready.place in
    let second = c.put-2.ensures h.value.key (ready_after _ _ h.value.key h.value.wrote h.place _ c.args.rows.value (value_other h s) c.requires.ready.value first) in
    let third = c.put-3.ensures h.segment.key
    (ready_after _ _ h.segment.key h.segment.wrote h.value _ c.args.rows.segment (λ w q e n. (segment_other h s w q e n).1)
    (ready_after _ _ h.segment.key h.segment.wrote h.place _ c.args.rows.segment (λ w q e n. (segment_other h s w q e n).0) c.requires.ready.segment first) second) in
    adds _ _ c.args.entry.now h c.put.new.self c.put-2.new.self _ c.from-actor.result c.requires.homes c.from-actor.ensures refl refl c.push_at.ensures.lists
    c.push_at.ensures.room first second third
