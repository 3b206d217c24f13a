-- Keys: the places and segments for which lists of positions are kept. A step at a cell is kept
-- under both of its halves.
use Rattle.std.specs.Prelude.{ℕ, ◌+◌, ◌*◌, Bool, true, false, ◌||◌, List, Option, Some, None, option_map, option_and_then, position}
use Rattle.rd_cell.specs.declared.places.SegName.{SegName}
use Rattle.rd_cell.specs.declared.places.Place.{Place}
use Rattle.rd_cell.specs.declared.places.Place.TheVariants as place
use Rattle.rd_cell.specs.declared.places.Wrote.{Wrote}
use Rattle.rd_cell.specs.declared.places.Wrote.TheVariants as wrote
use Rattle.rd_cell.specs.Places.{name_eq, is_of_segment, place_eq, index_half, root, named_segment, segment_of}
use Rattle.rd_depend.specs.declared.index.keys.Key.{Key}
use Rattle.rd_depend.specs.declared.index.keys.Key.TheVariants.{At, In}

-- whether two keys are equal
abbrev pub key_eq : Key → Key → Bool
key_eq (At p) (At q) = place_eq p q
key_eq (In s) (In t) = name_eq s t
key_eq _ _ = false

-- whether there is a second key, and it is equal to the first
abbrev pub some_key_eq : Key → Option Key → Bool
some_key_eq q None = false
some_key_eq q (Some k) = key_eq q k

-- whether a step at place q is kept under the key of place p: if q is a cell, p is one of its
-- halves, and if not, the two are equal
abbrev pub is_kept_at : Place → Place → Bool
is_kept_at p (place.Cell s i) = place_eq p (place.Idx s i) || place_eq p (place.Val s i)
is_kept_at p q = place_eq p q

-- whether there is a place, and a step at it is kept under the key
abbrev pub is_under : Key → Option Place → Bool
is_under k None = false
is_under (At p) (Some q) = is_kept_at p q
is_under (In s) (Some q) = is_of_segment s q

-- whether there are a key and a place, and a step at the place is kept under the key
abbrev pub is_under_some : Option Key → Option Place → Bool
is_under_some None o = false
is_under_some (Some k) o = is_under k o

-- the key of the place, if there is a place; for a cell, the key of its index half
abbrev pub place_key : Option Place → Option Key
place_key o = option_map (λ p. At (index_half p)) o

-- the key of the value half, if this place is a cell
abbrev pub value_key_of_place : Place → Option Key
value_key_of_place (place.Cell s i) = Some (At (place.Val s i))
value_key_of_place _ = None

-- the key of the value half of this place, if there is a place and it is a cell
abbrev pub value_key : Option Place → Option Key
value_key o = option_and_then value_key_of_place o

-- the key of the place's segment, also for the whole of a segment; none for the queue's ends and
-- the array
abbrev pub segment_key_of_place : Place → Option Key
segment_key_of_place p = option_map In (named_segment p)

-- the key of the place's segment, if there is a place and it is in a segment or is the whole of one
abbrev pub segment_key : Option Place → Option Key
segment_key o = option_and_then segment_key_of_place o

-- whether an access to a cell that wrote this part of it wrote the value half
abbrev pub is_value_written : Wrote → Bool
is_value_written wrote.Place = true
is_value_written _ = false

-- the key under which a search finds the steps at what a place names, except at the value half of a
-- cell. The whole of a segment has the segment's key, a cell the key of its index half, and any
-- other place its own
abbrev pub search_key : Place → Key
search_key (place.Whole s) = In s
search_key p = At (index_half p)

-- the key of the whole of the segment to which the place belongs; none for the queue's ends, the
-- array's places and the whole of a segment
abbrev pub whole_key : Place → Option Key
whole_key p = option_map (λ s. At (place.Whole s)) (segment_of p)

-- the row, from 0, of the first of these keys that is equal to this one; none if no key is
unfoldable pub row_in : List Key → Key → Option ℕ
row_in keys k = position (key_eq k) keys

-- a kind of key, an index and a segment's name as one number. Each has digits of its own if index
-- and maker are below 2^8 and the name's `n` is below 2^32
abbrev pub packed : ℕ → SegName → ℕ → ℕ
packed kind s i = ((kind * 256 + i) * 256 + s.maker) * 4294967296 + s.n

-- the number as which the key of a place itself, `At`, is hashed
abbrev pub place_number : Place → ℕ
place_number place.QHead = 0
place_number place.QTail = 1
place_number (place.Head s) = packed 2 s 0
place_number (place.Tail s) = packed 3 s 0
place_number (place.Next s) = packed 4 s 0
place_number (place.Cell s i) = packed 5 s i
place_number (place.Whole s) = packed 6 s 0
place_number place.ArrHead = 7
place_number place.ArrTail = 8
place_number (place.ArrCell i) = packed 9 root i
place_number (place.Val s i) = packed 11 s i
place_number (place.Idx s i) = packed 12 s i

-- the number as which a key is hashed
abbrev pub key_number : Key → ℕ
key_number (At p) = place_number p
key_number (In s) = packed 10 s 0
