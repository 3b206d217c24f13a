use Rattle.std.proofs.Common.{◌+◌}
use Rattle.rd_options.proofs.ApartLemmas.{from_apart, later_names, to_apart}
use Rattle.rd_options.proofs.names.are_apart.Goals as goal

pub returns-then-not-is_apart_from_all-clause-no : goal.returns-then-not-is_apart_from_all-clause-no
returns-then-not-is_apart_from_all-clause-no c = λ _ all.
    c.is_apart_from_all.ensures.no c.if-not-is_apart_from_all.true (rw (later_names c.args.names.now (c.loop-i.i + 1)) (to_apart c.args.names.now c.loop-i.i c.loop-i-test.true (c.loop-i.invariant.1 all)).0)

pub loop-i-preserved : goal.loop-i-preserved
loop-i-preserved c =
    let apart = rw (later_names c.args.names.now (c.loop-i.i + 1)) at (c.is_apart_from_all.ensures.yes c.if-not-is_apart_from_all.false) in (
      λ left. c.loop-i.invariant.0 (from_apart c.args.names.now c.loop-i.i c.loop-i-test.true (apart, left)),
      λ all. (to_apart c.args.names.now c.loop-i.i c.loop-i-test.true (c.loop-i.invariant.1 all)).1,
    )
