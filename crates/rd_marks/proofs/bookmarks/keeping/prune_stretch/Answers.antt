use Rattle.rd_marks.proofs.Prelude.{◌≡◌, arith, nodes_of, needed_at}
use Rattle.rd_marks.proofs.Putting.{pruned}
use Rattle.rd_marks.proofs.bookmarks.keeping.prune_stretch.Goals as goal

pub shift_nodes-requires : goal.shift_nodes-requires
shift_nodes-requires c = λ k d inside. c.shrink-shift.ensures.low _ (c.requires.within k d inside)

pub returns-clause-pruned : goal.returns-clause-pruned
returns-clause-pruned c =
    let its : c.max-needed.result ≡ needed_at c.args.stretches.now.list.items (nodes_of c.args.names.now.entries) c.args.i =
    grind (arith, c.max-needed.ensures, c.shared_count.ensures, c.greatest_len_in_stretch.ensures) in
    rw (c.shift_nodes.ensures.entries, c.shifted.ensures) (pruned _ _ c.args.i c.max-needed.result c.shrink-shift.result c.shrink-shift.ensures _ its c.requires.within c.requires.needed _ _
    c.requires.here c.truncated_if_in_stretch.ensures.stretch c.truncated_if_in_stretch.ensures.number c.truncated_if_in_stretch.ensures.left)
