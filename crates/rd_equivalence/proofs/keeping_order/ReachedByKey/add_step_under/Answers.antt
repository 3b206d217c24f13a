use Rattle.rd_equivalence.proofs.Prelude.{◌≡◌, Option, Some, None, IsSome, cond, refl, sym, ap, subst, ◌∙◌, Key, Reached, key_eq, raised, with_step_under, reached_of, reached_or_nothing}
use Rattle.indexmap.specs.IndexMap.{get}
use Rattle.rd_equivalence.proofs.ComparedSteps.{inserted_under}
use Rattle.rd_equivalence.proofs.keeping_order.ReachedByKey.add_step_under.Goals as goal

pub returns-in-Some-get_mut-clause-reached : goal.returns-in-Some-get_mut-clause-reached
returns-in-Some-get_mut-clause-reached c =
    let m = c.args.self.now.reached in
    let key = c.in-Some.key in
    let r = c.raise.new.self in
    let was : get key_eq m key ≡ Some c.in-Some-get_mut.reached.now = sym c.in-Some-get_mut.ensures.value in
    inserted_under (get key_eq m) (get key_eq (c.get_mut.follows.lender r)) key r c.args.wrote c.args.at
    ((c.get_mut.follows.holds r).3 (subst (λ (o : Option Reached). IsSome o) (sym was) refl)).0
    (c.raise.ensures.reached ∙ ap (λ (o : Option Reached). raised (reached_or_nothing key o) c.args.wrote c.args.at) (sym was))
    ∙ ap (λ (o : Option Key). with_step_under o c.args.wrote c.args.at (reached_of c.args.self.now)) (sym c.in-Some.is)

pub returns-in-Ok-clause-reached : goal.returns-in-Ok-clause-reached
returns-in-Ok-clause-reached c =
    let m = c.args.self.now.reached in
    let key = c.in-Some.key in
    let r = c.raise-order.new.self in
    let was : get key_eq m key ≡ None = sym c.in_default-get_mut.ensures.value in
    inserted_under (get key_eq m) (get key_eq c.insert.new.self) key r c.args.wrote c.args.at
    (λ q. c.in-Ok.ensures.updates.0 q ∙ (λ j. cond (key_eq key q) (Some r) (get key_eq (c.get_mut.follows.holds-at-none j) q)))
    (c.raise-order.ensures.reached ∙ ap (λ (o : Option Reached). raised (reached_or_nothing key o) c.args.wrote c.args.at) (sym was))
    ∙ ap (λ (o : Option Key). with_step_under o c.args.wrote c.args.at (reached_of c.args.self.now)) (sym c.in-Some.is)
