use Rattle.rd_depend.proofs.Prelude.{common_steps, nat_lt, before_first, DependIndex, IsAscending, ◌≡◌, refl, arith}
use Rattle.rd_depend.proofs.IndexCuts.{index-cut, cut_room}
use Rattle.rd_depend.proofs.IndexRoom.{each, each_capacity}
use Rattle.rd_depend.proofs.index.DependIndex.truncate.Goals as goal

abbrev after : goal.After-self-1 → DependIndex
after c = let old = c.args.self.now in record { by_actor = c.remove_above_in_all.new.lists; by_key = c.truncate.new.self; len = c.args.n; alloc = old.alloc; few = omega (arith, old.few) }

pub returns-then-n-len-clause-left : goal.returns-then-n-len-clause-left
returns-then-n-len-clause-left c = λ es is.
    let all = index-cut c.args.self.now (after c) c.args.n
    (each c.args.self.now (after c) (λ ps qs. IsAscending ps → qs ≡ before_first (nat_lt c.args.n) ps) c.remove_above_in_all.ensures.lists c.truncate.ensures.lists) refl (omega arith) es is in
    record { lists = all.lists; len = all.len }

pub returns-then-n-len-clause-room : goal.returns-then-n-len-clause-room
returns-then-n-len-clause-room c =
    cut_room c.args.self.now (after c) c.args.n (λ es is. let all = returns-then-n-len-clause-left c es is in record { lists = all.lists; len = all.len })
    (each_capacity c.args.self.now (after c) c.remove_above_in_all.ensures.capacity c.truncate.ensures.capacity)

pub returns-else-n-len : goal.returns-else-n-len
returns-else-n-len c = grind (arith, common_steps)
