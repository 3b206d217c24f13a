use Rattle.std.proofs.Common.{arith}
use Rattle.rd_marks.proofs.StretchUses.{unchanged_is_grown}
use Rattle.rd_marks.proofs.stretches.Stretches.grow.Goals as goal

pub returns-then-at-len-clause-ok : goal.returns-then-at-len-clause-ok
returns-then-at-len-clause-ok c =
    unchanged_is_grown c.args.self.now.list.items (omega (arith, c.args.self.now.list.ok, c.args.self.now.list.small)) c.args.at c.args.live.now c.requires.within (omega (arith, c.if-at-len.true, c.len.ensures))
