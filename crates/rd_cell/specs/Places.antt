-- Places: when two are equal, when two overlap, and which of them an access wrote.
use Rattle.std.specs.Option.{option_map_or}
use Rattle.std.specs.Prelude.{ℕ, Bool, true, false, ◌==◌, ◌&&◌, ◌||◌, Option, Some, None, option_map}
use Rattle.rd_cell.specs.declared.places.SegName.{SegName}
use Rattle.rd_cell.specs.declared.places.Place.{Place}
use Rattle.rd_cell.specs.declared.places.Place.TheVariants as place
use Rattle.rd_cell.specs.declared.places.Wrote.{Wrote}
use Rattle.rd_cell.specs.declared.places.Wrote.TheVariants as wrote

-- the segment that is there from the start
abbrev pub root : SegName
root = record { maker = 0; n = 0 }

-- whether two names are equal
abbrev pub name_eq : SegName → SegName → Bool
name_eq s t = (s.maker == t.maker) && (s.n == t.n)

-- the segment to which a place belongs, or of which it is the whole; none for the queue's ends and
-- the array's places
abbrev pub named_segment : Place → Option SegName
named_segment (place.Head s) = Some s
named_segment (place.Tail s) = Some s
named_segment (place.Next s) = Some s
named_segment (place.Cell s i) = Some s
named_segment (place.Val s i) = Some s
named_segment (place.Idx s i) = Some s
named_segment (place.Whole s) = Some s
named_segment _ = None

-- whether a place belongs to this segment, or is the whole of it
abbrev pub is_of_segment : SegName → Place → Bool
is_of_segment s p = option_map_or (name_eq s) (named_segment p) false

-- whether a place is one of this cell's two halves, or the cell itself
abbrev pub is_of_cell : SegName → ℕ → Place → Bool
is_of_cell s i (place.Cell t j) = name_eq s t && (i == j)
is_of_cell s i (place.Val t j) = name_eq s t && (i == j)
is_of_cell s i (place.Idx t j) = name_eq s t && (i == j)
is_of_cell s i _ = false

-- whether the second place is of the segment that the first names (`is_of_segment`); false if the
-- first names none
abbrev pub is_of_same_segment : Place → Place → Bool
is_of_same_segment p q = option_map_or (λ s. is_of_segment s q) (named_segment p) false

-- the segment to which a place belongs, if any; the whole of a segment belongs to none
abbrev pub segment_of : Place → Option SegName
segment_of (place.Whole s) = None
segment_of p = named_segment p

-- whether a place is one of the array's
abbrev pub is_of_array : Place → Bool
is_of_array place.ArrHead = true
is_of_array place.ArrTail = true
is_of_array (place.ArrCell i) = true
is_of_array _ = false

-- whether two places are equal
abbrev pub place_eq : Place → Place → Bool
place_eq place.QHead place.QHead = true
place_eq place.QTail place.QTail = true
place_eq (place.Head s) (place.Head t) = name_eq s t
place_eq (place.Tail s) (place.Tail t) = name_eq s t
place_eq (place.Next s) (place.Next t) = name_eq s t
place_eq (place.Cell s i) (place.Cell t j) = name_eq s t && (i == j)
place_eq (place.Val s i) (place.Val t j) = name_eq s t && (i == j)
place_eq (place.Idx s i) (place.Idx t j) = name_eq s t && (i == j)
place_eq (place.Whole s) (place.Whole t) = name_eq s t
place_eq place.ArrHead place.ArrHead = true
place_eq place.ArrTail place.ArrTail = true
place_eq (place.ArrCell i) (place.ArrCell j) = i == j
place_eq _ _ = false

-- whether q is p or a part of it: they are equal, p is the cell and q one of its halves, or p is
-- the whole of q's segment
abbrev pub covers : Place → Place → Bool
covers (place.Whole s) q = is_of_segment s q
covers (place.Cell s i) q = is_of_cell s i q
covers p q = place_eq p q

-- whether two places overlap: one covers the other
abbrev pub overlaps : Place → Place → Bool
overlaps p q = covers p q || covers q p

-- whether a place covers q; false without a place
abbrev pub some_covers : Option Place → Place → Bool
some_covers o q = option_map_or (λ p. covers p q) o false

-- whether two places overlap; false unless both are given
abbrev pub some_overlap : Option Place → Option Place → Bool
some_overlap (Some p) (Some q) = overlaps p q
some_overlap _ _ = false

-- whether an access wrote nothing
abbrev pub is_nothing : Wrote → Bool
is_nothing wrote.Nothing = true
is_nothing _ = false

-- a cell's index half, which has its safe bit and its index; any other place itself
abbrev pub index_half : Place → Place
index_half (place.Cell s i) = place.Idx s i
index_half p = p

-- the place that names what an access wrote, or none if it only read or had no place. The access
-- touched the places of the map that its own place covers, and wrote those that this one covers
abbrev pub written : Option Place → Wrote → Option Place
written o wrote.Nothing = None
written o wrote.Place = o
written o wrote.Index = option_map index_half o

-- whether two accesses, each given by its place and what it wrote there, interfere: one of them
-- wrote a place that the other touched
abbrev pub interfere : Option Place → Wrote → Option Place → Wrote → Bool
interfere p v q w = some_overlap (written p v) q || some_overlap p (written q w)
