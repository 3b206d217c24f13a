use Rattle.rd_cell.proofs.TestLemmas.{second_test_decides, first_test_refutes}
use Rattle.rd_ring.proofs.FreshLemmas.{segment_fresh, fresh_words, fresh_cells}
use Rattle.rd_ring.proofs.segments.Segment.is_fresh.Goals as goal

pub returns-then-has_fresh_words : goal.returns-then-has_fresh_words
returns-then-has_fresh_words g c =
    let s = c.args.self.now in
    second_test_decides c.has_fresh_words.result c.are_fresh_cells.result c.has_fresh_words.ensures c.are_fresh_cells.ensures
    (λ words cells. segment_fresh s cells words.0.0 words.0.1 words.1.0 words.1.1) (fresh_cells s) c.if-has_fresh_words.true

pub returns-else-has_fresh_words : goal.returns-else-has_fresh_words
returns-else-has_fresh_words g c = first_test_refutes c.has_fresh_words.result c.has_fresh_words.ensures (fresh_words c.args.self.now) c.if-has_fresh_words.false
