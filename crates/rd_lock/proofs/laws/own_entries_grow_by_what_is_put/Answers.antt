use Rattle.rd_lock.proofs.Histories.{own_grows, own_signed}
use Rattle.rd_lock.proofs.laws.own_entries_grow_by_what_is_put.Goals as goal

pub returns-clause-named : goal.returns-clause-named
returns-clause-named g c = own_grows

pub returns-clause-signed : goal.returns-clause-signed
returns-clause-signed g c = own_signed
