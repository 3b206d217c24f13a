use Rattle.rd_marks.proofs.Prelude.{option_map, arith, lookup-map_values, shifted, mark_name_eq}
use Rattle.indexmap.proofs.CallerLemmas.{insert_entry-new}
use Rattle.rd_marks.proofs.bookmarks.keeping.add_bookmark.Goals as goal

pub returns : goal.returns
returns c =
    let fact = insert_entry-new mark_name_eq c.shift_nodes.new.names c.args.name c.args.grown.node in
    let fact_2 = lookup-map_values (shifted c.args.grown.shift) (mark_name_eq c.args.name) c.args.names.now.entries in
    grind (arith, option_map, c.in-Ok.ensures.entries, c.shift_nodes.ensures.entries, c.requires.new, fact_2, fact)
