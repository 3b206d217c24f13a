use Rattle.rd_depend.proofs.Prelude.{refl, DependIndex, IsAscending, IsMoved}
use Rattle.rd_depend.proofs.IndexMoves.{moved_index, moved_room}
use Rattle.rd_depend.proofs.IndexRoom.{each, each_capacity}
use Rattle.rd_depend.proofs.index.DependIndex.move_to.Goals as goal

abbrev after : goal.After-self-1 → DependIndex
after c = let old = c.args.self.now in record { by_actor = c.move_in_all.new.lists; by_key = c.move_to.new.self; len = old.len; alloc = old.alloc; few = old.few }

pub returns-clause-moved : goal.returns-clause-moved
returns-clause-moved c = λ es is.
    let all = moved_index c.args.self.now (after c) c.args.k c.args.n c.requires.some c.requires.order c.requires.within
    (each c.args.self.now (after c) (λ ps qs. IsAscending ps → IsMoved c.args.k c.args.n ps qs) c.move_in_all.ensures.lists c.move_to.ensures.lists) refl es is in
    record { lists = all.lists; len = all.len }

pub returns-clause-capacity : goal.returns-clause-capacity
returns-clause-capacity c = each_capacity c.args.self.now (after c) c.move_in_all.ensures.capacity c.move_to.ensures.capacity

pub returns-clause-room : goal.returns-clause-room
returns-clause-room c =
    moved_room c.args.self.now (after c) c.args.k c.args.n c.requires.some c.requires.order c.requires.within (λ es is. let all = returns-clause-moved c es is in record { lists = all.lists; len = all.len }) (returns-clause-capacity c)
    c.requires.index.entries c.requires.index.is
