-- Events as JSON values.
use Rattle.rd_trace.proofs.Prelude.{◌≡◌, [], ◌∷◌, refl, List, length, None, items_view, event_of_items, Value}

-- a list of another length than two or three spells no event
pub spells_no_event : (vs : List Value) → (length vs ≡ 2 → ⊥) → (length vs ≡ 3 → ⊥) → event_of_items (items_view vs) ≡ None
spells_no_event (a ∷ b ∷ []) two three = absurd (two refl)
spells_no_event (a ∷ b ∷ c ∷ []) two three = absurd (three refl)
spells_no_event _ two three = refl
