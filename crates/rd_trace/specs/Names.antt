-- Names of segments as JSON values: `[M,S]`, a maker and a number; `null` where a segment has no
-- next one.
use Rattle.std.specs.Option.{option_map_or}
use Rattle.std.specs.Prelude.{ℕ, List, Option, Some, None, option_map, option_and_then}
use Rattle.serde_json.specs.Data.{Data, null, number, array, unsigned, Items, no_items, item}
use Rattle.serde_json.specs.Find.{get, as_array}
use Rattle.rd_cell.specs.declared.places.SegName.{SegName}
use Rattle.rd_trace.specs.Numbers.{byte_number, u32_number}

-- the name of a segment that the items of a list spell: a maker and a number; none if they spell
-- none
abbrev pub segment_name_of_items : Items → Option SegName
segment_name_of_items (item m (item n no_items)) = option_and_then (λ maker. option_map (λ k. record { maker = maker; n = k }) (u32_number n)) (byte_number m)
segment_name_of_items _ = None

-- the name of a segment that a JSON value spells; none if it spells none
abbrev pub segment_name_of : Data → Option SegName
segment_name_of d = option_and_then segment_name_of_items (as_array d)

-- the name of a segment at a key of an object; none if it has no name there
abbrev pub segment_name_at : List ℕ → Data → Option SegName
segment_name_at key d = option_and_then segment_name_of (get key d)

-- the name of the next segment that a JSON value spells, where `null` is `Some None`, no next
-- segment; none if the value spells neither
abbrev pub next_of : Data → Option (Option SegName)
next_of null = Some None
next_of (array ds) = option_map Some (segment_name_of_items ds)
next_of _ = None

-- the JSON value as which a segment's name is written
abbrev pub segment_name_data : SegName → Data
segment_name_data s = array (item (number (unsigned s.maker)) (item (number (unsigned s.n)) no_items))

-- the JSON value as which the next segment's name is written; `null` for no next segment
abbrev pub next_data : Option SegName → Data
next_data o = option_map_or segment_name_data o null
