use Rattle.std.proofs.Common.{arith, vec_len, vec_capacity}
use Rattle.rd_desk.proofs.HistoryLemmas.{grown_capacity}
use Rattle.rd_desk.proofs.histories.History.make_room.Goals as goal

pub returns-clause-grown : goal.returns-clause-grown
returns-clause-grown c =
    let ok = rw (c.max.ensures, c.len-2.ensures) at c.reserve_exact.ensures.capacity_exact in
    grown_capacity c.reserve_exact.result (vec_capacity c.args.self.now.entries) (vec_len c.args.self.now.entries) (vec_capacity c.reserve_exact.new.self) c.requires.grown (omega arith) ok c.reserve_exact.ensures.err
