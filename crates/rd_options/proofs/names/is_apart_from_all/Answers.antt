use Rattle.rd_options.proofs.ApartLemmas.{from_all, to_all}
use Rattle.rd_options.proofs.names.is_apart_from_all.Goals as goal

pub returns-then-not-is_apart-clause-no : goal.returns-then-not-is_apart-clause-no
returns-then-not-is_apart-clause-no c = λ _ all.
    c.is_apart.ensures.no c.if-not-is_apart.true (to_all c.args.others.now c.loop-other.other-index c.loop-other-test.true c.args.name.now (c.loop-other.invariant.1 all)).0

pub loop-other-preserved : goal.loop-other-preserved
loop-other-preserved c =
    let apart = c.is_apart.ensures.yes c.if-not-is_apart.false in (
      λ left. c.loop-other.invariant.0 (from_all c.args.others.now c.loop-other.other-index c.loop-other-test.true c.args.name.now (apart, left)),
      λ all. (to_all c.args.others.now c.loop-other.other-index c.loop-other-test.true c.args.name.now (c.loop-other.invariant.1 all)).1,
    )
