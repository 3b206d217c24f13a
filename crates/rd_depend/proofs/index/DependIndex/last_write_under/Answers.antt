use Rattle.rd_depend.proofs.Prelude.{◌≡◌, ◌<◌, ℕ, List, length, true, take, sym, ap, subst, ◌∙◌, Option, None, nat_lt, Key, is_under_some, IsAscending, last_or, before_first, Under, touched_or_written, last_position}
use Rattle.rd_depend.proofs.IndexWriters.{last_in, none_last}
use Rattle.rd_depend.proofs.index.DependIndex.last_write_under.Goals as goal

pub returns-in_default-clause-answer : goal.returns-in_default-clause-answer
returns-in_default-clause-answer c = λ es is.
    sym (ap (λ (o : Option Key). last_position (λ y. is_under_some o (touched_or_written true y)) (take c.args.n es)) c.in_default.is ∙ none_last (take c.args.n es))

pub returns-clause-answer : goal.returns-clause-answer
returns-clause-answer c = λ es is.
    last_in c.args.self.now es is (Under true c.in-Some.key) c.args.n c.last_up_to.result
    (subst (λ (l : List ℕ). IsAscending l → length l < 131072 → c.last_up_to.result ≡ last_or None (before_first (nat_lt c.args.n) l)) (c.found.ensures.items ∙ c.kept_under.ensures)
    c.last_up_to.ensures.last)
    ∙ sym (ap (λ (o : Option Key). last_position (λ y. is_under_some o (touched_or_written true y)) (take c.args.n es)) c.in-Some.is)
