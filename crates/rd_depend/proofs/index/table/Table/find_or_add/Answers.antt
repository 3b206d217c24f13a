use Rattle.rd_depend.proofs.IndexTable.{row-within}
use Rattle.rd_depend.proofs.index.table.Table.find_or_add.Goals as goal

pub returns-then-has_key_at-clause-within : goal.returns-then-has_key_at-clause-within
returns-then-has_key_at-clause-within c = row-within c.args.self.now.keys.keys c.args.key _ (c.has_key_at.ensures c.if-has_key_at.true)
