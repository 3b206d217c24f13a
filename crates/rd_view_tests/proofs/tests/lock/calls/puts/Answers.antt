use Rattle.std.proofs.Common.{rules, ◌≡◌, ◌++◌, ◌∷◌, [], refl, sym, ap, ◌∙◌}
use Rattle.rd_view_tests.proofs.tests.lock.calls.puts.Goals as goal

pub put_back-requires-clause-value : goal.put_back-requires-clause-value
put_back-requires-clause-value g c = let h = c.requires.holds in let old = c.args.numbers.entries.items in
    let items : c.push.new.self.items ≡ old ++ (c.args.who, c.args.added) ∷ [] = search rules in record {
      rooted = refl;
      held = (h.0, old, h.1, (c.args.added ∷ [], items ∙ ap (λ n. old ++ (n, c.args.added) ∷ []) (sym c.requires.own.1)));
    }
