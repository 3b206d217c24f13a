-- The content of each place of a segment, and what the segment's operations do. A segment doesn't
-- have its own name. So `place_of` gives a place of the segment under each name, and what is stated
-- holds under every name.
use Rattle.std.specs.Prelude.{◌≡◌, ℕ, Bool, ◌&&◌, nat_le, List, Option, Some, None, option_map, slice_get, Err}
use Rattle.rd_ring.specs.Prelude.{COUNTER_END, Cell, SegName, Place, Wrote, Content, Operation, Answer, Refusal, is_of_segment, Contents, operand, operate, Operates, Restores}
use Rattle.rd_ring.specs.declared.segments.Segment.{Segment}
use Rattle.rd_ring.specs.declared.parts.SegmentParts.{SegmentParts}
use Rattle.rd_cell.specs.declared.places.Place.TheVariants as place
use Rattle.rd_cell.specs.declared.contents.Content.TheVariants as content

-- the content of each place of a segment with these words, or none if it has no such place; the
-- segment's name in the place is ignored
abbrev pub segment_contents_with : ℕ → ℕ → Bool → Option SegName → List Cell → Contents
segment_contents_with head tail closed next cells (place.Head name) = Some (content.Number head)
segment_contents_with head tail closed next cells (place.Tail name) = Some (content.Tail closed tail)
segment_contents_with head tail closed next cells (place.Next name) = Some (content.Next next)
segment_contents_with head tail closed next cells (place.Val name i) = option_map (λ c. content.Val c.val) (slice_get cells i)
segment_contents_with head tail closed next cells (place.Idx name i) = option_map (λ c. content.Idx c.safe c.idx) (slice_get cells i)
segment_contents_with head tail closed next cells _ = None

-- the content of each place of this segment
abbrev pub segment_contents : {R : ℕ} → Segment R → Contents
segment_contents s = segment_contents_with s.head s.tail s.closed s.next s.cells

-- the content of each place of the segment that these parts describe
abbrev pub parts_contents : {R : ℕ} → SegmentParts R → Contents
parts_contents s = segment_contents_with s.head s.tail s.closed s.next s.cells

-- whether both counters are at most 2^62
abbrev pub counters_fit : {R : ℕ} → SegmentParts R → Bool
counters_fit s = nat_le s.head COUNTER_END && nat_le s.tail COUNTER_END

-- the segment's head counter
abbrev pub head_counter : {R : ℕ} → Segment R → ℕ
head_counter s = s.head

-- the segment's tail counter
abbrev pub tail_counter : {R : ℕ} → Segment R → ℕ
tail_counter s = s.tail

-- under every name of the segment: the operation was done at the place `place_of`, found this
-- content there, answered `said`, wrote the part `written` of the place, and left all other places
-- of the segment as they were
pub record OperatesAt {R : ℕ} (place_of : SegName → Place) (op : Operation) (found : Content) (said : Answer) (written : Wrote) (old new : Segment R) : Type 0 where
  pub named : (s : SegName)
      → Operates (is_of_segment s) (place_of s) op (record { place = Some (place_of s); old = Some found; answer = said; wrote = written }) (segment_contents old) (segment_contents new)

-- under every name of the segment: the operation at this place is refused for this cause
abbrev pub RefusesAt : {R : ℕ} → (SegName → Place) → Operation → Segment R → Refusal → Type 0
RefusesAt place_of op old cause = (s : SegName) → operate (place_of s) op (operand (segment_contents old) (place_of s)) ≡ Err cause

-- under every name of the segment: the old content `was` is back at the place `place_of`, and all
-- other places of the segment stayed as they were
pub record RestoresAt {R : ℕ} (place_of : SegName → Place) (was : Content) (old new : Segment R) : Type 0 where
  pub named : (s : SegName) → Restores (is_of_segment s) (place_of s) (Some was) (segment_contents old) (segment_contents new)
