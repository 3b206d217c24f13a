use Rattle.rd_depend.proofs.Prelude.{arith, false≢true}
use Rattle.rd_depend.proofs.IndexChanges.{added, then_adds}
use Rattle.rd_depend.proofs.IndexRoom.{room_for_first}
use Rattle.rd_depend.proofs.index.DependIndex.push.Goals as goal

pub returns-in_err-rows-clause-succeeds : goal.returns-in_err-rows-clause-succeeds
returns-in_err-rows-clause-succeeds c = λ rest has. absurd (false≢true (c.in_err-rows.ensures.succeeds (room_for_first c.args.self.now c.args.entry.now rest has)))

pub returns-clause-ok : goal.returns-clause-ok
returns-clause-ok c = λ es is.
    added c.args.self.now c.put.new.self c.args.entry.now es
    (then_adds c.args.self.now c.reserve.new.self c.put.new.self c.args.entry.now c.reserve.ensures.same c.put.ensures) is

pub returns-clause-room : goal.returns-clause-room
returns-clause-room c = λ t. omega (arith, c.reserve.ensures.same.room t, c.put.ensures.room t)
