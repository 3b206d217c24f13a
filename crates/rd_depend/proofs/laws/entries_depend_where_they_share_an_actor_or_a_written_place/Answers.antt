use Rattle.rd_depend.proofs.Sharing.{depends-shares}
use Rattle.rd_depend.proofs.laws.entries_depend_where_they_share_an_actor_or_a_written_place.Goals as goal

pub returns : goal.returns
returns c = depends-shares
