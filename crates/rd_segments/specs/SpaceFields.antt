-- The space's fields as one map from places to contents.
use Rattle.std.specs.Prelude.{ℕ, List, Some, None, if◌then◌else◌}
use Rattle.rd_ring.specs.Prelude.{SegName, root, is_of_segment, Contents, fresh_segment}
use Rattle.rd_ring.specs.declared.segments.Segment.{Segment}
use Rattle.rd_segments.specs.declared.array.ArrayParts.{ArrayParts}
use Rattle.rd_segments.specs.Lists.{ListOf, contents_of_lists}
use Rattle.rd_segments.specs.Array.{array_contents, fresh_array}
use Rattle.rd_cell.specs.declared.places.Place.TheVariants as place
use Rattle.rd_cell.specs.declared.contents.Content.TheVariants as content

-- the content of each place of a space that has the segments' contents, the names at the queue's
-- ends and the array's contents given here
abbrev pub contents_with : Contents → SegName → SegName → Contents → Contents
contents_with segments qhead qtail array place.QHead = Some (content.Name qhead)
contents_with segments qhead qtail array place.QTail = Some (content.Name qtail)
contents_with segments qhead qtail array place.ArrHead = array place.ArrHead
contents_with segments qhead qtail array place.ArrTail = array place.ArrTail
contents_with segments qhead qtail array (place.ArrCell i) = array (place.ArrCell i)
contents_with segments qhead qtail array p = segments p

-- the content of each place of a space that has the makers' lists, the names at the queue's ends
-- and the array given here
abbrev pub contents_of_fields : {R : ℕ} → List (ListOf (Segment R)) → SegName → SegName → ArrayParts → Contents
contents_of_fields makers qhead qtail array = contents_with (contents_of_lists makers) qhead qtail (array_contents array)

-- the contents of a fresh space with rings of R cells: the root is the only segment and is fresh,
-- the queue's ends name it, and the array is fresh
abbrev pub fresh_space : ℕ → Contents
fresh_space R = contents_with (λ p. if is_of_segment root p then fresh_segment R p else None) root root fresh_array
