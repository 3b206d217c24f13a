use Rattle.rd_equivalence.proofs.Prelude.{arith, length-map, take-map, IfOk-weaker, DecidesEquivalence, events}
use Rattle.rd_equivalence.proofs.CommonBeginning.{neither_begins}
use Rattle.rd_equivalence.proofs.Exactness.{right_behind}
use Rattle.rd_equivalence.proofs.equivalence.are_equivalent.Goals as goal

pub returns-clause-answer : goal.returns-clause-answer
returns-clause-answer c =
    let common = c.common_beginning_len-common.ensures in
    IfOk-weaker c.are_rests_equivalent.result _ (DecidesEquivalence c.args.a.now c.args.b.now)
    (λ same right. right_behind c.args.a.now c.args.b.now c.common_beginning_len-common.result same (simp length-map at common.in_first) (simp length-map at common.in_second) (simp take-map at common.same) right)
    c.are_rests_equivalent.ensures.answer

pub returns-clause-memory : goal.returns-clause-memory
returns-clause-memory c = grind (arith, length-map, neither_begins (events c.args.a.now) (events c.args.b.now) _ c.common_beginning_len-common.ensures.longest)
