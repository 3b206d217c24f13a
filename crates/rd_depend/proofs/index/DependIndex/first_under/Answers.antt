use Rattle.rd_depend.proofs.Prelude.{◌≡◌, ◌<◌, ℕ, List, length, sym, ap, subst, ◌∙◌, Option, nat_lt, Key, is_under_some, IsAscending, find, Under, positions, touched_or_written, is_writes}
use Rattle.rd_depend.proofs.IndexFirst.{found_in, none_found}
use Rattle.rd_depend.proofs.index.DependIndex.first_under.Goals as goal

pub returns-in_default-clause-answer : goal.returns-in_default-clause-answer
returns-in_default-clause-answer c = λ es is.
    sym (ap (λ (o : Option Key). find (nat_lt c.args.k) (positions (λ y. is_under_some o (touched_or_written (is_writes c.args.among) y)) es)) c.in_default.is ∙ none_found c.args.k 1 es)

pub returns-clause-answer : goal.returns-clause-answer
returns-clause-answer c = λ es is.
    found_in c.args.self.now es is (Under (is_writes c.args.among) c.in-Some.key) c.args.k c.first_above.result
    (subst (λ (l : List ℕ). IsAscending l → length l < 131072 → c.first_above.result ≡ find (nat_lt c.args.k) l) (c.found.ensures.items ∙ c.kept_under.ensures)
    c.first_above.ensures.first)
    ∙ sym (ap (λ (o : Option Key). find (nat_lt c.args.k) (positions (λ y. is_under_some o (touched_or_written (is_writes c.args.among) y)) es)) c.in-Some.is)
