use Rattle.rd_equivalence.proofs.Prelude.{arith, rules, reached_of, remaining_steps, common_steps}
use Rattle.rd_equivalence.proofs.ComparingLemmas.{differs_here, decided_at_end, some_and_none}
use Rattle.rd_equivalence.proofs.equivalence.are_rests_equivalent.Goals as goal

pub loop-entry-init : goal.loop-entry-init
loop-entry-init c = grind arith

pub loop-entry-preserved : goal.loop-entry-preserved
loop-entry-preserved c = grind (arith, common_steps)

pub returns-then-not-branch-clause-answer : goal.returns-then-not-branch-clause-answer
returns-then-not-branch-clause-answer c =
    differs_here c.args.a.now c.args.b.now c.loop-entry.entry-index _ (reached_of c.loop-entry.reached) (remaining_steps c.loop-entry.left)
    c.loop-entry-test.true c.loop-entry.invariant (c.in_ok-match_next.ensures.differs c.if-not-branch.true)

pub returns-clause-answer : goal.returns-clause-answer
returns-clause-answer c = search (rules, decided_at_end, arith)

pub returns-then-is_empty-2-clause-answer : goal.returns-then-is_empty-2-clause-answer
returns-then-is_empty-2-clause-answer c = grind (arith, some_and_none)
