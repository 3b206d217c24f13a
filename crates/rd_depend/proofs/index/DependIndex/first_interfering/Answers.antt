use Rattle.rd_depend.proofs.Prelude.{not, ap, ◌∙◌, nat_lt, is_under, is_under_some, find, positions, touched_or_written}
use Rattle.rd_depend.proofs.IndexFirst.{found_at}
use Rattle.rd_depend.proofs.index.DependIndex.first_interfering.Goals as goal

pub returns-clause-answer : goal.returns-clause-answer
returns-clause-answer c = λ es is.
    found_at c.args.place c.args.wrote c.args.k es c.first_under-by_value.result c.first_under-own.result c.first_under-whole.result c.earlier.result c.earlier-2.result
    (c.first_under-by_value.ensures.answer es is
    ∙ (λ i. find (nat_lt c.args.k) (positions (λ y. is_under_some (c.of_value.ensures i) (touched_or_written ((c.writes_if-of_value.ensures ∙ ap not c.is_value_written.ensures) i) y)) es)))
    (c.first_under-own.ensures.answer es is
    ∙ (λ i. find (nat_lt c.args.k) (positions (λ y. is_under (c.for_search.ensures i) (touched_or_written ((c.writes_if-among.ensures ∙ c.is_nothing.ensures) i) y)) es)))
    (c.first_under-whole.ensures.answer es is
    ∙ (λ i. find (nat_lt c.args.k) (positions (λ y. is_under_some (c.of_whole.ensures i) (touched_or_written ((c.writes_if-among.ensures ∙ c.is_nothing.ensures) i) y)) es)))
    c.earlier.ensures c.earlier-2.ensures
