use Rattle.rd_journal.proofs.Prelude.{drop_all, drop_at, take_all}
use Rattle.std.proofs.Common.{arith, length-append}
use Rattle.rd_journal.proofs.Numbers.{order_below, order_push, put_over, at-append, at-length, at-push}
use Rattle.rd_journal.proofs.entries.slab.put_at.Goals as goal

pub index_mut-requires : goal.index_mut-requires
index_mut-requires c = grind (arith, order_below)

pub returns-then-position-len-clause-put : goal.returns-then-position-len-clause-put
returns-then-position-len-clause-put c = grind (arith, put_over)

pub returns-else-position-len-clause-ordered : goal.returns-else-position-len-clause-ordered
returns-else-position-len-clause-ordered c = grind (arith, length-append, order_push)

pub returns-else-position-len-clause-put : goal.returns-else-position-len-clause-put
returns-else-position-len-clause-put c = grind (arith, order_below, at-length, at-append, at-push, drop_at, take_all, drop_all)
