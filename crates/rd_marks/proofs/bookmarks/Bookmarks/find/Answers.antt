use Rattle.rd_marks.proofs.Prelude.{sym, option_map, arith, lookup-map_values, entries_at, stretches_in, mark_name_eq, IsWithin}
use Rattle.rd_marks.proofs.MarkLemmas.{all_found}
use Rattle.rd_marks.proofs.bookmarks.Bookmarks.find.Goals as goal

pub returns-in-None-clause-found : goal.returns-in-None-clause-found
returns-in-None-clause-found c = grind (arith, option_map, c.in-None.ensures.value, lookup-map_values (entries_at (stretches_in c.args.self.now)) (mark_name_eq c.args.name.now) c.args.self.now.names.entries)

pub returns-in-Some-clause-found : goal.returns-in-Some-clause-found
returns-in-Some-clause-found c = grind (arith, option_map, c.in-Some.ensures.value, lookup-map_values (entries_at (stretches_in c.args.self.now)) (mark_name_eq c.args.name.now) c.args.self.now.names.entries)

pub returns-in-Some-clause-within : goal.returns-in-Some-clause-within
returns-in-Some-clause-within c =
    all_found (mark_name_eq c.args.name.now) (IsWithin c.args.self.now.stretches.list.items) c.args.self.now.names.entries c.in-Some.node.now c.args.self.now.kept.within (sym c.in-Some.ensures.value)
