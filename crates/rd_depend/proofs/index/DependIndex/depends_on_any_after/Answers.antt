use Rattle.rd_depend.proofs.Prelude.{sym, ap, ◌∙◌, is_some, By}
use Rattle.rd_depend.proofs.IndexFirst.{found_in, found_of_actor, found-after, found-on}
use Rattle.rd_depend.proofs.index.DependIndex.depends_on_any_after.Goals as goal

pub returns-then-is_some : goal.returns-then-is_some
returns-then-is_some c = λ es is.
    sym (found_of_actor c.args.entry.now c.args.n es
    (ap is_some (sym (found_in c.args.self.now es is (By c.args.entry.now.event.actor) c.args.n c.first_by_actor.result c.first_by_actor.ensures.answer))
    ∙ sym c.is_some.ensures ∙ c.if-is_some.true)) ∙ found-after c.args.entry.now c.args.n es

pub returns : goal.returns
returns c = λ es is. c.is_some-2.ensures ∙ ap is_some (c.first.ensures.answer es is) ∙ found-on c.args.entry.now _ _
