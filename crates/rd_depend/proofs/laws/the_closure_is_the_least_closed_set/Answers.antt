use Rattle.rd_depend.proofs.Closures.{members_are_marked, marked_members}
use Rattle.rd_depend.proofs.laws.the_closure_is_the_least_closed_set.Goals as goal

pub returns : goal.returns
returns c = λ es k j some within. (marked_members es k j, members_are_marked es k j some within)
