use Rattle.std.proofs.lemmas.List.Elements.{All-nil}
use Rattle.rd_segments.proofs.Prelude.{◌≡◌, List, ◌∷◌, [], ◌∙◌, ap, arith, ListOf, by_name}
use Rattle.rd_segments.proofs.FreshLemmas.{root_alone, by_name-push_empty}
use Rattle.rd_segments.proofs.makers.fresh_space_lists.Goals as goal

pub returns-clause-ok : goal.returns-clause-ok
returns-clause-ok g c =
    let root = c.push_reserved.new.self in
    let items : c.push_reserved-2.new.self.items ≡ root ∷ [] = rw c.in_ok-makers.ensures.items at c.push_reserved-2.ensures.items in
    let one : root.items ≡ c.fresh.result ∷ [] = rw c.in_ok-root.ensures.items at c.push_reserved.ensures.items in
    record {
      segment = c.fresh.result;
      fresh_contents = c.fresh.ensures;
      at = λ t. c.loop.invariant.2 t ∙ ap (λ (xs : List (ListOf _)). by_name xs t) items ∙ root_alone root [] c.fresh.result one (All-nil _) t.maker t.n;
    }

pub loop-preserved : goal.loop-preserved
loop-preserved g c =
    (omega arith, omega arith, λ t. by_name-push_empty _ _ _ c.push_reserved-in-loop.ensures.items c.new.ensures.items t ∙ c.loop.invariant.2 t)
