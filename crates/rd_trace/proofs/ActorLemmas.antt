-- Actors as JSON values: the values that are written are read as the same.
use Rattle.rd_trace.proofs.Prelude.{◌≡◌, [], ◌∷◌, refl, List, length, Some, None, arith, unsigned, items_view, Actor, segment_name_of, segment_name_data, byte_number, op_of_items, SpellsActor, actor_data, Value}
use Rattle.serde_json.specs.Data.{number}

-- a list of another length than one or two spells no call
pub spells_no_op : (vs : List Value) → (length vs ≡ 1 → ⊥) → (length vs ≡ 2 → ⊥) → op_of_items (items_view vs) ≡ None
spells_no_op (a ∷ []) one two = absurd (one refl)
spells_no_op (a ∷ b ∷ []) one two = absurd (two refl)
spells_no_op _ one two = refl

-- the JSON value of an actor spells it, if the values of its pass and of its names are read as
-- these
pub actor_spelled : (a : Actor) → byte_number (number (unsigned a.pass)) ≡ Some a.pass → segment_name_of (segment_name_data a.crq) ≡ Some a.crq → segment_name_of (segment_name_data a.new) ≡ Some a.new → segment_name_of (segment_name_data a.next) ≡ Some a.next
    → SpellsActor (actor_data a) a
actor_spelled a pass crq new next = grind arith
