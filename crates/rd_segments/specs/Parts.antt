-- A space that is put together from parts.
use Rattle.std.specs.Prelude.{◌≡◌, ℕ, Bool, List, Option, option_and_then}
use Rattle.std.specs.List.{list_all}
use Rattle.rd_ring.specs.Prelude.{SegName, Contents}
use Rattle.rd_ring.specs.declared.parts.SegmentParts.{SegmentParts}
use Rattle.rd_ring.specs.Segments.{parts_contents}
use Rattle.rd_segments.specs.declared.array.ArrayParts.{ArrayParts}
use Rattle.rd_segments.specs.Array.{array_contents}
use Rattle.rd_segments.specs.Lists.{ListOf, by_name, contents_of_segments}
use Rattle.rd_segments.specs.SpaceFields.{contents_with}

-- the content of each place of the segment that these parts describe; none without parts
abbrev pub some_parts_contents : {R : ℕ} → Option (SegmentParts R) → Contents
some_parts_contents o p = option_and_then (λ s. parts_contents s p) o

-- the content of each place of a space that is put together from these parts: the makers' segments,
-- the names at the queue's head and tail, and the array
abbrev pub contents_of_parts : {R : ℕ} → List (ListOf (SegmentParts R)) → SegName → SegName → ArrayParts → Contents
contents_of_parts makers qhead qtail array = contents_with (contents_of_segments (λ n. some_parts_contents (by_name makers n))) qhead qtail (array_contents array)

-- whether each segment in the makers' lists passes a test
abbrev pub each_segment : {R : ℕ} → (SegmentParts R → Bool) → List (ListOf (SegmentParts R)) → Bool
each_segment test makers = list_all (λ list. list_all test list.items) makers
