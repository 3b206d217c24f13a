use Rattle.rd_depend.proofs.Prelude.{true, take, ◌∙◌, is_under, is_under_some, touched_or_written, last_position}
use Rattle.rd_depend.proofs.IndexWriters.{last_at}
use Rattle.rd_depend.proofs.index.DependIndex.last_writer.Goals as goal

pub returns-clause-answer : goal.returns-clause-answer
returns-clause-answer c = λ es is.
    let first = take c.args.n es in
    last_at c.args.place first c.last_write_under-by_value.result c.last_write_under-own.result c.last_write_under-whole.result c.later.result c.later-2.result
    (c.last_write_under-by_value.ensures.answer es is ∙ (λ i. last_position (λ y. is_under_some (c.of_value.ensures i) (touched_or_written true y)) first))
    (c.last_write_under-own.ensures.answer es is ∙ (λ i. last_position (λ y. is_under (c.for_search.ensures i) (touched_or_written true y)) first))
    (c.last_write_under-whole.ensures.answer es is ∙ (λ i. last_position (λ y. is_under_some (c.of_whole.ensures i) (touched_or_written true y)) first))
    c.later.ensures c.later-2.ensures
