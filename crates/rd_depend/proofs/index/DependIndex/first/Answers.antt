use Rattle.rd_depend.proofs.Prelude.{depends, ◌∙◌, earlier, By}
use Rattle.rd_depend.proofs.IndexFirst.{found_in, found-without_place, found-with_place, first-after}
use Rattle.rd_depend.proofs.index.DependIndex.first.Goals as goal

pub returns-in-None-clause-answer : goal.returns-in-None-clause-answer
returns-in-None-clause-answer c = λ es is.
    found_in c.args.self.now es is (By c.args.entry.now.event.actor) c.args.k c.first_by_actor-by_actor.result c.first_by_actor-by_actor.ensures.answer
    ∙ found-without_place c.args.entry.now c.in-None.is c.args.k es
    ∙ first-after (depends c.args.entry.now) c.args.k es

pub returns-in-Some-clause-answer : goal.returns-in-Some-clause-answer
returns-in-Some-clause-answer c = λ es is.
    c.earlier.ensures
    ∙ (λ i. earlier
    (found_in c.args.self.now es is (By c.args.entry.now.event.actor) c.args.k c.first_by_actor-by_actor.result c.first_by_actor-by_actor.ensures.answer i)
    (c.first_interfering.ensures.answer es is i))
    ∙ found-with_place c.args.entry.now c.in-Some.place c.in-Some.is c.args.k es
    ∙ first-after (depends c.args.entry.now) c.args.k es
