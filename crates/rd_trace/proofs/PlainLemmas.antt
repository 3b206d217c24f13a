-- The JSON value of a book has no float, and is not deeper than what is read.
use Rattle.rd_trace.proofs.Prelude.{◌≡◌, ℕ, suc, ◌≤◌, false, ◌||◌, List, [], ◌∷◌, Vec, Global, inl, inr, refl, sym, ap₂, subst, arith, Data, array, depth, outline, max_depth, has_float, Cell, ArrSlot, SegmentParts, ArrayParts, Actor, World, Event, Parts, Mark, BookState, items_by, event_data, actor_data, cell_data, segment_data, segment_list_data, filled_slots, slot_data, array_data, IsStartWrittenAs, parts_data, mark_data, book_data}
use Rattle.json.specs.Tree as tree

-- a JSON value has no float, and its depth and the one of its JSON tree are at most n
pub record IsPlain (n : ℕ) (d : Data) : Type 0 where
  pub whole : has_float d ≡ false
  pub shallow : depth d ≤ n
  pub nested : tree.depth (outline d) ≤ n

items_plain : {X : Type 0} (n : ℕ) (datum : X → Data) → ((x : X) → IsPlain n (datum x)) → (xs : List X) → IsPlain (suc n) (array (items_by datum xs))
items_plain n datum plain [] = record { whole = refl; shallow = omega arith; nested = omega arith }
items_plain n datum plain (x ∷ xs) =
    let h = plain x in
    let k = items_plain n datum plain xs in
    record { whole = ap₂ (λ a b. a || b) h.whole k.whole; shallow = omega (arith, h.shallow, k.shallow); nested = omega (arith, h.nested, k.nested) }

event_plain : (e : Event) → IsPlain 1 (event_data e)
event_plain e = grind arith

actor_plain : (a : Actor) → IsPlain 4 (actor_data a)
actor_plain a = grind arith

cell_plain : (c : Cell) → IsPlain 1 (cell_data c)
cell_plain c = grind arith

segment_plain : {R : ℕ} (s : SegmentParts R) → IsPlain 3 (segment_data s)
segment_plain s = grind (arith, items_plain 1 cell_data cell_plain s.cells)

list_plain : {R : ℕ} (list : Vec (SegmentParts R) Global) → IsPlain 4 (segment_list_data list)
list_plain list = items_plain 3 segment_data segment_plain list.items

slot_plain : (s : ℕ × ArrSlot) → IsPlain 1 (slot_data s)
slot_plain s = grind arith

slots_plain : (a : ArrayParts) → IsPlain 4 (array_data a)
slots_plain a = grind (arith, items_plain 1 slot_data slot_plain (filled_slots 0 a.cells))

parts_plain : {R : ℕ} (p : Parts R) → IsPlain 6 (parts_data p)
parts_plain p = grind (arith, items_plain 4 actor_data actor_plain p.actors.items, items_plain 4 segment_list_data list_plain p.segments.items, slots_plain p.array)

pub start_plain : (w : World) (d : Data) → IsStartWrittenAs w d → IsPlain 6 d
start_plain w d (inl (count, is_fresh, some, few, same)) = subst (IsPlain 6) (sym same) (record { whole = refl; shallow = omega arith; nested = omega arith })
start_plain w d (inr (no_fresh, p, flawless, is_world, same)) = subst (IsPlain 6) (sym same) (parts_plain p)

mark_plain : (m : Mark) → IsPlain 5 (mark_data m)
mark_plain m = grind (arith, items_plain 1 event_data event_plain m.events)

-- the JSON tree of a book is not deeper than what is read
pub nested_book : (start : Data) (b : BookState) → IsStartWrittenAs b.session.start start → tree.depth (outline (book_data start b)) ≤ max_depth
nested_book start b h = grind (arith, start_plain b.session.start start h, items_plain 1 event_data event_plain b.session.live, items_plain 1 event_data event_plain b.session.undone, items_plain 5 mark_data mark_plain b.marks)
