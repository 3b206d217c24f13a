-- Dependence in terms of the map from places to contents: which of its places an entry touched, and
-- which it wrote.
use Rattle.std.specs.Prelude.{◌≡◌, Bool, true, false, not, ◌||◌}
use Rattle.rd_step.specs.Prelude.{Place, some_covers, written, is_nothing}
use Rattle.rd_step.specs.declared.entries.Entry.{Entry}
use Rattle.rd_cell.specs.declared.places.Place.TheVariants as place

-- whether a place is one of the map; a cell and the whole of a segment are not, since they only
-- name several of its places
abbrev pub is_of_map : Place → Bool
is_of_map (place.Cell s i) = false
is_of_map (place.Whole s) = false
is_of_map _ = true

-- whether an entry touched this place of the map
abbrev pub touched : Entry → Place → Bool
touched x q = some_covers x.place q

-- whether an entry wrote this place of the map
abbrev pub wrote : Entry → Place → Bool
wrote x q = some_covers (written x.place x.wrote) q

-- there is a place of the map that both entries touched and at least one of them wrote
pub record ShareWrittenPlace (x y : Entry) : Type 0 where
  pub common : Place
  pub is_of_the_map : is_of_map common ≡ true
  pub first : touched x common ≡ true
  pub second : touched y common ≡ true
  pub one_wrote : (wrote x common || wrote y common) ≡ true

-- whether at least one of two entries wrote anything
abbrev pub either_wrote : Entry → Entry → Bool
either_wrote x y = not (is_nothing x.wrote) || not (is_nothing y.wrote)
