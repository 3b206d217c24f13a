use Rattle.rd_depend.proofs.Prelude.{subst, arith, without, IsIndexOf}
use Rattle.rd_depend.proofs.IndexMoves.{moved_last}
use Rattle.rd_depend.proofs.index.DependIndex.remove.Goals as goal

pub pop-requires : goal.pop-requires
pop-requires c =
    let h = c.requires in
    record {
      before = without h.entries c.args.k;
      is = grind (arith, moved_last);
    }

pub returns-clause-left : goal.returns-clause-left
returns-clause-left c = λ es is at.
    c.pop.ensures.left (without es c.args.k)
    (subst (IsIndexOf c.move_to.new.self) (moved_last es c.args.k c.len.result c.args.entry.now (omega arith) at)
    (c.move_to.ensures.moved es is))
