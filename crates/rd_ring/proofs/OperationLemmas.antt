-- An operation at any place of a segment.
use Rattle.rd_ring.proofs.Prelude.{◌≡◌, ℕ, arith, ◌<◌, Some, slice_get_past, read_answer, segment_contents, OperatesAt}
use Rattle.rd_ring.specs.Prelude.{SegName, Place, Wrote, Content, Operation, Answer, Done, is_of_segment, is_of_same_segment, operand, Operates}
use Rattle.rd_ring.specs.declared.segments.Segment.{Segment}
use Rattle.rd_cell.specs.declared.places.Place.TheVariants as place
use Rattle.rd_cell.specs.declared.places.Wrote.TheVariants as wrote

-- a read answers what it finds, is done at its place, and leaves the segment as it was
pub Operates-read : {R : ℕ} (seg : Segment R) (p : Place) (op : Operation) (c : Content) (a : Answer) (done : Done) → operand (segment_contents seg) p ≡ Some c
    → read_answer op c ≡ Some a → done ≡ record { place = Some p; old = Some c; answer = a; wrote = wrote.Nothing }
    → Operates (is_of_same_segment p) p op done (segment_contents seg) (segment_contents seg)
Operates-read seg p op c a done found answers notes = grind arith

-- an operation that is done at a place under every name of the segment is done at the place under
-- the name that the place has
pub Operates-from_OperatesAt : {R : ℕ} (old new : Segment R) (place : SegName → Place) (s : SegName) (p : Place) (op op' : Operation) (c d : Content) (answer : Answer) (wrote : Wrote) (done : Done)
    → ((q : Place) → is_of_same_segment (place s) q ≡ is_of_segment s q) → p ≡ place s → op' ≡ op → operand (segment_contents old) p ≡ Some d → OperatesAt place op c answer wrote old new
    → (d ≡ c → done ≡ record { place = Some p; old = Some c; answer = answer; wrote = wrote })
    → Operates (is_of_same_segment p) p op' done (segment_contents old) (segment_contents new)
Operates-from_OperatesAt {R} old new place s p op op' c d answer wrote done beside at same found operates notes = grind arith

-- a cell that an operation finds is one of the R cells
pub cell_is_within : {R : ℕ} (seg : Segment R) (s : SegName) (i : ℕ) (p : Place) (c : Content) → p ≡ place.Cell s i → operand (segment_contents seg) p ≡ Some c → i < R
cell_is_within seg s i p c at found = grind (arith, seg.sized, slice_get_past)
