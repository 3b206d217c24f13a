-- The array's map after an operation on one of its places.
use Rattle.rd_segments.proofs.Prelude.{◌≡◌, ℕ, ◌<◌, false, List, length, set, get_or, option_map, Result, IfOk, arith, slice_get-get_or, SLOTS, Place, Operation, Done, Refusal, place_eq, everywhere, Operates, OperatesOnContent, slice_get-set_same, slice_get-set_other, Operates-from_OperatesOn, fresh_array, eqb-false, ArrSlot, array_contents_with, All, fun_ext, slice_get_cases}
use Rattle.rd_cell.specs.declared.places.Place.TheVariants as place
use Rattle.rd_cell.specs.declared.contents.ArrSlot.TheVariants as slot
use Rattle.rd_cell.specs.declared.contents.Content.TheVariants as content

-- an array with counters 0 and 64 empty slots is fresh
pub array_fresh : (cells : List ArrSlot) → length cells ≡ SLOTS → All (λ x. x ≡ slot.Empty) cells → array_contents_with 0 0 cells ≡ fresh_array
array_fresh cells sized all = fun_ext each
  where
    each : (q : Place) → array_contents_with 0 0 cells q ≡ fresh_array q
    each q = grind (arith, slice_get_cases, all)

-- One place of the array

-- another head counter changes no other place of the array
pub head_other : (m n tail : ℕ) (cells : List ArrSlot) (q : Place) → place_eq place.ArrHead q ≡ false → array_contents_with n tail cells q ≡ array_contents_with m tail cells q
head_other m n tail cells q h = grind arith

-- another tail counter changes no other place of the array
pub tail_other : (head m n : ℕ) (cells : List ArrSlot) (q : Place) → place_eq place.ArrTail q ≡ false → array_contents_with head n cells q ≡ array_contents_with head m cells q
tail_other head m n cells q h = grind arith

-- another content of a slot changes no other place of the array
slot_other : (head tail : ℕ) (cells : List ArrSlot) (i : ℕ) (slot : ArrSlot) (q : Place) → place_eq (place.ArrCell i) q ≡ false
    → array_contents_with head tail (set cells i slot) q ≡ array_contents_with head tail cells q
slot_other head tail cells i slot q h = grind (arith, eqb-false, option_map, slice_get-set_other)

-- an operation on the content of a slot is done at that slot's place, if place and index are the
-- slot's
pub slot_does : (head tail : ℕ) (cells : List ArrSlot) (i j : ℕ) (old new d : ArrSlot) (p : Place) (op : Operation) → p ≡ place.ArrCell i → j ≡ i
    → j < length cells → old ≡ get_or cells j d → (r : Result Done Refusal)
    → IfOk r (λ done. OperatesOnContent (place.ArrCell i) op done (content.Slot old) (content.Slot new))
    → IfOk r (λ done. Operates everywhere p op done (array_contents_with head tail cells) (array_contents_with head tail (set cells j new)))
slot_does head tail cells i j old new d p op at same within read r h = grind (arith, slice_get-get_or, slice_get-set_same, Operates-from_OperatesOn, slot_other)
