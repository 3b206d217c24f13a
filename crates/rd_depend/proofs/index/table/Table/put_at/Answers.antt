use Rattle.std.proofs.Common.{true, false, refl}
use Rattle.rd_depend.proofs.IndexTable.{puts, ready_room}
use Rattle.rd_depend.proofs.index.table.Table.put_at.Goals as goal

pub push_at-requires : goal.push_at-requires
push_at-requires c = ready_room c.args.self.now c.requires.0 c.args.wrote c.args.row c.requires.1 false refl

pub push_if-requires : goal.push_if-requires
push_if-requires c = λ h. ready_room c.args.self.now c.requires.0 c.args.wrote c.args.row c.requires.1 true h

pub returns : goal.returns
returns c = λ k r.
    puts _ _ k c.args.wrote c.args.position c.args.row refl c.push_at.ensures.lists c.push_if.ensures.lists c.push_at.ensures.room c.push_if.ensures.room r.at
