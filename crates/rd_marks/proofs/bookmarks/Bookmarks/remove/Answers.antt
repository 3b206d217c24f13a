use Rattle.rd_marks.proofs.Prelude.{option_map, arith, lookup-map_values, MarkName, Node, entries_at, stretches_in, mark_name_eq, IsWithin}
use Rattle.rd_marks.proofs.MarkLemmas.{all_without, removed_mapped}
use Rattle.rd_marks.proofs.bookmarks.Bookmarks.remove.Goals as goal

pub returns-in-None-clause-found : goal.returns-in-None-clause-found
returns-in-None-clause-found c = grind (arith, option_map, c.in-None.ensures.value, lookup-map_values (entries_at (stretches_in c.args.self.now)) (mark_name_eq c.args.name.now) c.args.self.now.names.entries)

pub returns-in-None-clause-lists : goal.returns-in-None-clause-lists
returns-in-None-clause-lists c = grind (arith, c.shift_remove.ensures.entries, removed_mapped (entries_at (stretches_in c.args.self.now)) (mark_name_eq c.args.name.now) c.args.self.now.names.entries)

pub prune-requires-clause-within : goal.prune-requires-clause-within
prune-requires-clause-within c =
    rw c.shift_remove.ensures.entries (all_without (mark_name_eq c.args.name.now) (λ (m : MarkName × Node). IsWithin c.args.self.now.stretches.list.items m.1) c.args.self.now.names.entries
    c.args.self.now.kept.within)

pub returns-in-Some-clause-found : goal.returns-in-Some-clause-found
returns-in-Some-clause-found c = grind (arith, option_map, c.in-Some.ensures.value, lookup-map_values (entries_at (stretches_in c.args.self.now)) (mark_name_eq c.args.name.now) c.args.self.now.names.entries)

pub returns-in-Some-clause-lists : goal.returns-in-Some-clause-lists
returns-in-Some-clause-lists c = grind (arith, c.prune.ensures.pruned.lists, c.shift_remove.ensures.entries, removed_mapped (entries_at (stretches_in c.args.self.now)) (mark_name_eq c.args.name.now) c.args.self.now.names.entries)
