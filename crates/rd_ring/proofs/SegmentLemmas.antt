-- What an operation leaves at each place of a segment.
use Rattle.rd_ring.proofs.Prelude.{◌≡◌, ℕ, ◌<◌, Bool, true, sym, ap, arith, Some, None, List, ◌↔◌, ◌∙◌, length, set, slice_get, Ok, true≢false, false_from_ne_true, slice_get-set_same, slice_get-set_other, segment_contents, cas_answer, cas_wrote, OperatesAt, RefusesAt, RestoresAt}
use Rattle.std.specs.Bool.{OnTrue, OnFalse}
use Rattle.std.proofs.lemmas.List.{set-get_or}
use Rattle.std.proofs.lemmas.Option.{get_or_from_slice_get}
use Rattle.rd_ring.specs.Prelude.{COUNTER_END, Cell, SegName, Place, Content, Operation, Add, Cas2, Answer, root, effect, wrote_cell, operand}
use Rattle.rd_cell.proofs.CellLemmas.{cell_eq-true}
use Rattle.rd_ring.specs.declared.segments.Segment.{Segment}
use Rattle.rd_cell.specs.declared.places.Place.TheVariants as place
use Rattle.rd_cell.specs.declared.places.Wrote.TheVariants as wrote
use Rattle.rd_cell.specs.declared.contents.Content.TheVariants as content
use Rattle.rd_cell.specs.declared.operations.Answer.TheVariants as answer
use Rattle.rd_cell.specs.declared.refusal.Refusal.TheVariants as refusal

-- if two segments differ in one cell alone, the new one is the old one with this cell put back
pub RestoresAt-cell : {R : ℕ} (old new : Segment R) (i : ℕ) (cell : Cell) → i < length old.cells → new.head ≡ old.head → new.next ≡ old.next
    → new.cells ≡ set old.cells i cell → new.closed ≡ old.closed → new.tail ≡ old.tail → RestoresAt (λ s. place.Cell s i) (content.Cell cell) old new
RestoresAt-cell old new i cell within head next cells bit tail = record { named = λ s q h. grind (arith, slice_get-set_same, slice_get-set_other) }

-- Operations at a place

-- an operation that writes nothing is done if no place changed
OperatesAt-read : {R : ℕ} (old new : Segment R) (place : SegName → Place) (op : Operation) (found : Content) (answer : Answer)
    → ((s : SegName) → operand (segment_contents old) (place s) ≡ Some found) → effect op found ≡ Ok (record { answer = answer; writes = None })
    → ((q : Place) → segment_contents new q ≡ segment_contents old q) → OperatesAt place op found answer wrote.Nothing old new
OperatesAt-read old new place op found answer there does same = record { named = λ s. grind (arith, there s) }

-- Fetch-and-adds

-- a fetch-and-add on a head counter at its end is refused
pub RefusesAt-head_end : {R : ℕ} (old : Segment R) → old.head ≡ COUNTER_END → RefusesAt place.Head Add old refusal.CounterEnd
RefusesAt-head_end old ended = grind arith

-- a fetch-and-add on a tail counter at its end is refused
pub RefusesAt-tail_end : {R : ℕ} (old : Segment R) → old.tail ≡ COUNTER_END → RefusesAt place.Tail Add old refusal.CounterEnd
RefusesAt-tail_end old ended = grind arith

-- Compare-and-swaps

-- two segments with the same words have the same content at each place
segment_contents-same : {R : ℕ} (old new : Segment R) → new.head ≡ old.head → new.next ≡ old.next → new.cells ≡ old.cells → new.closed ≡ old.closed
    → new.tail ≡ old.tail → (q : Place) → segment_contents new q ≡ segment_contents old q
segment_contents-same old new head next cells bit tail q = grind arith

-- writing an element where it already is leaves the list
set_read : (xs : List Cell) (i : ℕ) (x : Cell) → slice_get xs i ≡ Some x → set xs i x ≡ xs
set_read xs i x h = ap (set xs i) (sym (get_or_from_slice_get xs i x x h)) ∙ set-get_or xs i x

-- the operand of an operation at a cell is the cell in the segment's list
pub cell_found : {R : ℕ} (seg : Segment R) (s : SegName) (i : ℕ) (x : Cell) → slice_get seg.cells i ≡ Some x → operand (segment_contents seg) (place.Cell s i) ≡ Some (content.Cell x)
cell_found seg s i x read = grind arith

-- a CAS2 that finds the expected cell and puts the new one is done
cell_won : {R : ℕ} (old new : Segment R) (i : ℕ) (x from to : Cell) → slice_get old.cells i ≡ Some x → x ≡ from
    → RestoresAt (λ s. place.Cell s i) (content.Cell to) old new → OperatesAt (λ s. place.Cell s i) (Cas2 from to) (content.Cell x) answer.Won (wrote_cell x to) old new
cell_won old new i x from to read is puts = grind arith

-- a CAS2 is done if it puts the new cell exactly where it found the expected one
pub cell_swapped : {R : ℕ} (old new : Segment R) (i : ℕ) (x y from to : Cell) (won : Bool) → i < length old.cells → slice_get old.cells i ≡ Some x
    → new.head ≡ old.head → new.next ≡ old.next → new.cells ≡ set old.cells i y → new.closed ≡ old.closed → new.tail ≡ old.tail
    → (won ≡ true) ↔ (x ≡ from) → OnTrue won (y ≡ to) → OnFalse won (y ≡ x)
    → (c : Content) → operand (segment_contents old) (place.Cell root i) ≡ Some c
    → OperatesAt (λ s. place.Cell s i) (Cas2 from to) c (cas_answer won) (cas_wrote won (wrote_cell from to)) old new
cell_swapped old new i x y from to won within read head next cells bit tail decides h lost c there = grind (arith, cell_found, cell_won, RestoresAt-cell, set_read, OperatesAt-read, false_from_ne_true, true≢false, cell_eq-true, segment_contents-same)
