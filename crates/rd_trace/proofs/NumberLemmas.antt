-- Whole numbers and members of JSON values, and names of segments.
use Rattle.rd_trace.proofs.Prelude.{◌≡◌, [], ◌∷◌, refl, List, length, Some, None, option_map, sym, ap, ◌∙◌, String, BTreeMap, Global, Data, as_object, items_view, members_view, members_len-members_view, segment_name_of_items, Value}
use Rattle.serde_json.specs.Events.{members_len}

-- a JSON object has as many members as its map
pub member_count : (m : BTreeMap (String Global) Value) (d : Data) → Some (members_view m.entries) ≡ as_object d → option_map members_len (as_object d) ≡ Some (length m.entries)
member_count m d is = ap (option_map members_len) (sym is) ∙ ap Some (members_len-members_view m.entries)

-- a list of another length than two spells no name
pub spells_no_name : (vs : List Value) → (length vs ≡ 2 → ⊥) → segment_name_of_items (items_view vs) ≡ None
spells_no_name (m ∷ n ∷ []) two = absurd (two refl)
spells_no_name _ two = refl
