-- A segment is fresh exactly if its words and its cells are.
use Rattle.rd_ring.proofs.Prelude.{◌≡◌, ℕ, ◌<◌, false, if◌then◌else◌, nat_lt, length, slice_get, Some, None, option_map, arith, lt-ltb, cond-true, slice_get-get_or, slice_get_past, segment_contents}
use Rattle.rd_ring.specs.Prelude.{Cell, Place, Content, root, fresh_segment, fresh_cell}
use Rattle.rd_ring.specs.declared.segments.Segment.{Segment}
use Rattle.rd_cell.specs.declared.places.Place.TheVariants as place

module _ {R : ℕ} (s : Segment R) where
  module _ (cells : (u : ℕ) → u < length s.cells → slice_get s.cells u ≡ Some (fresh_cell u)) where
    -- what a half of each cell has is what it has in a fresh segment
    half_at : (f : Cell → Content) (u : ℕ) → option_map f (slice_get s.cells u) ≡ (if nat_lt u R then Some (f (fresh_cell u)) else None)
    half_at f u = let sized : length s.cells ≡ R = s.sized in grind (arith, cells, slice_get_past)

    -- a segment with fresh words and fresh cells is fresh
    pub segment_fresh : s.head ≡ 0 → s.tail ≡ 0 → s.closed ≡ false → s.next ≡ None → (q : Place) → segment_contents s q ≡ fresh_segment R q
    segment_fresh head tail closed next q = grind (arith, half_at)

  -- conversely, a segment whose contents are fresh has fresh words and fresh cells
  module _ (e : (q : Place) → segment_contents s q ≡ fresh_segment R q) where
    pub fresh_words : ((s.head ≡ 0) × (s.tail ≡ 0)) × ((s.closed ≡ false) × (s.next ≡ None))
    fresh_words = grind (arith, e (place.Head root), e (place.Tail root), e (place.Next root))

    pub fresh_cells : (u : ℕ) → u < length s.cells → slice_get s.cells u ≡ Some (fresh_cell u)
    fresh_cells u within = grind (arith, s.sized, slice_get-get_or, e (place.Val root u), e (place.Idx root u), cond-true, lt-ltb)
