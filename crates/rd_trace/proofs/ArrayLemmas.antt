-- The array as a JSON value: the slots that are read have ascending positions, and the value that
-- is written spells the array.
use Rattle.rd_trace.proofs.Prelude.{◌≡◌, ℕ, zero, suc, ◌+◌, ◌<◌, ◌≤◌, List, [], ◌∷◌, ◌++◌, length, set, take, get_or, Some, None, refl, sym, ap, ap₂, ◌∙◌, subst, arith, append-nil, length-take, length-set, take_more, Data, view, items_view, SLOTS, ArrSlot, ArrayParts, Gives, SpellEach, items_by, slot_of_items, slot_of, filled_slots, slot_data, SpellsArray, array_data, Value}
use Rattle.rd_trace.proofs.SpellLemmas.{one_given, same_each, spelled_at, spell_each-more, spell_each-none, items_written}
use Rattle.rd_cell.specs.declared.contents.ArrSlot.TheVariants as slot

-- ---- reading

-- a list of another length than two spells no slot
pub spells_no_slot : (vs : List Value) → (length vs ≡ 2 → ⊥) → slot_of_items (items_view vs) ≡ None
spells_no_slot (i ∷ s ∷ []) two = absurd (two refl)
spells_no_slot _ two = refl

abbrev pub IsFilled : ArrSlot → Type 0
IsFilled slot.Empty = ⊥
IsFilled slot.Top = Unit {0}
IsFilled (slot.Value x) = Unit {0}

-- all slots from a position on are empty
abbrev pub AreEmptyFrom : ℕ → List ArrSlot → Type 0
AreEmptyFrom i [] = Unit {0}
AreEmptyFrom zero (s ∷ ss) = (s ≡ slot.Empty) × AreEmptyFrom zero ss
AreEmptyFrom (suc i) (s ∷ ss) = AreEmptyFrom i ss

empty_later : (i k : ℕ) (ss : List ArrSlot) → i ≤ k → AreEmptyFrom i ss → AreEmptyFrom k ss
empty_later i k [] le h = tt
empty_later zero zero (s ∷ ss) le h = h
empty_later zero (suc k) (s ∷ ss) le h = empty_later zero k ss (omega arith) h.1
empty_later (suc i) zero (s ∷ ss) le h = absurd (omega arith)
empty_later (suc i) (suc k) (s ∷ ss) le h = empty_later i k ss (omega arith) h

empty_after_set : (k : ℕ) (ss : List ArrSlot) (s : ArrSlot) → AreEmptyFrom k ss → AreEmptyFrom (suc k) (set ss k s)
empty_after_set k [] s h = tt
empty_after_set zero (x ∷ ss) s h = h.1
empty_after_set (suc k) (x ∷ ss) s h = empty_after_set k ss s h

filled_slots_of_empty : (i : ℕ) (ss : List ArrSlot) → AreEmptyFrom zero ss → filled_slots i ss ≡ []
filled_slots_of_empty i [] h = refl
filled_slots_of_empty i (s ∷ ss) h = ap (λ x. filled_slots i (x ∷ ss)) h.0 ∙ filled_slots_of_empty (suc i) ss h.1

filled_first : (i : ℕ) (s : ArrSlot) (ss : List ArrSlot) → IsFilled s → filled_slots i (s ∷ ss) ≡ (i, s) ∷ filled_slots (suc i) ss
filled_first i s ss h = grind arith

-- setting slot k, where all slots from it on are empty, adds it to the end of the filled slots
filled_set : (i k j : ℕ) (ss : List ArrSlot) (s : ArrSlot) → j ≡ i + k → k < length ss → AreEmptyFrom k ss → IsFilled s → filled_slots i (set ss k s) ≡ filled_slots i ss ++ (j, s) ∷ []
filled_set i k j [] s at within h filled = absurd (omega arith)
filled_set i zero j (x ∷ ss) s at within h filled =
    let here : i ≡ j = omega arith in
    filled_first i s ss filled ∙ ap₂ (λ n ps. (n, s) ∷ ps) here (filled_slots_of_empty (suc i) ss h.1) ∙ sym (ap (λ ps. ps ++ (j, s) ∷ []) (filled_slots_of_empty i (x ∷ ss) h))
filled_set i (suc k) j (x ∷ ss) s at within h filled = let later = filled_set (suc i) k j ss s (omega arith) (omega arith) h filled in grind arith

-- the positions ascend, the lowest is `first` or later, and all are below an end
abbrev pub Rises : ℕ → ℕ → List (ℕ × ArrSlot) → Type 0
Rises first end [] = Unit {0}
Rises first end (p ∷ ps) = (first ≤ p.0) × (p.0 < end) × Rises (suc p.0) end ps

rises_from : (i k end : ℕ) (ps : List (ℕ × ArrSlot)) → i ≤ k → Rises k end ps → Rises i end ps
rises_from i k end [] le h = tt
rises_from i k end (p ∷ ps) le h = (omega (arith, h.0), h.1, h.2)

pub filled_rises : (i end : ℕ) (ss : List ArrSlot) → i + length ss ≤ end → Rises i end (filled_slots i ss)
filled_rises i end [] le = tt
filled_rises i end (s ∷ ss) le = let later = filled_rises (suc i) end ss (omega arith) in grind (arith, rises_from)

-- the lowest position that may come after these slots
abbrev pub next_position : ℕ → List (ℕ × ArrSlot) → ℕ
next_position i [] = i
next_position i (p ∷ ps) = next_position (suc p.0) ps

next_position-append : (i : ℕ) (ps : List (ℕ × ArrSlot)) (p : ℕ × ArrSlot) → next_position i (ps ++ p ∷ []) ≡ suc p.0
next_position-append i [] p = refl
next_position-append i (q ∷ ps) p = next_position-append (suc q.0) ps p

rises_at : (i end : ℕ) (ps : List (ℕ × ArrSlot)) (p : ℕ × ArrSlot) (more : List (ℕ × ArrSlot)) → Rises i end (ps ++ p ∷ more) → (next_position i ps ≤ p.0) × (p.0 < end)
rises_at i end [] p more h = (h.0, h.1)
rises_at i end (q ∷ ps) p more h = rises_at (suc q.0) end ps p more h.2

slot_filled : (d : Data) (p : ℕ × ArrSlot) → Some p ≡ slot_of d → IsFilled p.1
slot_filled d p is = grind arith

one_slot : (d : Data) (p q : ℕ × ArrSlot) → Gives slot_of d p → Gives slot_of d q → p ≡ q
one_slot = one_given slot_of

-- the first i values of a list spell the filled ones of these `SLOTS` slots; `free` is the lowest
-- position that the next slot may have, and all slots from it on are empty
pub record AreReadTo (vs : List Value) (i : ℕ) (slots : List ArrSlot) (free : ℕ) : Type 0 where
  pub spelled : SpellEach (Gives slot_of) (items_view (take i vs)) (filled_slots 0 slots)
  pub sized : length slots ≡ SLOTS
  pub next : free ≡ next_position 0 (filled_slots 0 slots)
  pub empty : AreEmptyFrom free slots

module _ (vs : List Value) (i : ℕ) (slots : List ArrSlot) (free : ℕ) (h : AreReadTo vs i slots free) (v : Value) (within : i < length vs) (is : v ≡ get_or vs i v) where
  pub one_more_slot : (p : ℕ × ArrSlot) (next : ℕ) → Some p ≡ slot_of (view v) → free ≤ p.0 → p.0 < SLOTS → next ≡ suc p.0 → AreReadTo vs (i + 1) (set slots p.0 p.1) next
  one_more_slot p next read behind_all below is_next = grind (arith, set, filled_set, empty_later, slot_filled, spell_each-more, length-set, next_position-append, empty_after_set)

  -- if all values spell slots of an array, the next value's position is not before `free`, and
  -- below `SLOTS`
  pub rises_here : (p : ℕ × ArrSlot) → Some p ≡ slot_of (view v) → (ss : List ArrSlot) → length ss ≡ SLOTS → SpellEach (Gives slot_of) (items_view vs) (filled_slots 0 ss) → (free ≤ p.0) × (p.0 < SLOTS)
  rises_here p read ss size all =
      let here = spelled_at (Gives slot_of) vs i v within is (filled_slots 0 ss) all in
      let done = same_each (Gives slot_of) one_slot (items_view (take i vs)) here.0 (filled_slots 0 slots) here.4 h.spelled in
      let this = one_slot (view v) here.1 p here.5 (sym read) in
      let split : filled_slots 0 ss ≡ filled_slots 0 slots ++ p ∷ here.2 = here.3 ∙ ap₂ (λ xs x. xs ++ x ∷ here.2) done this in
      let there = rises_at 0 SLOTS (filled_slots 0 slots) p here.2 (subst (Rises 0 SLOTS) split (filled_rises 0 SLOTS ss (omega arith))) in
      (subst (λ n. n ≤ p.0) (sym h.next) there.0, there.1)

  pub no_slot_here : None ≡ slot_of (view v) → (ss : List ArrSlot) → SpellEach (Gives slot_of) (items_view vs) (filled_slots 0 ss) → ⊥
  no_slot_here read ss = spell_each-none (Gives slot_of) vs i v within is (λ p k. let no : Some p ≡ None = sym k ∙ sym read in cc) (filled_slots 0 ss)

-- ---- writing

filled_behind : (i j : ℕ) (xs : List ArrSlot) (s : ArrSlot) → j ≡ i + length xs → filled_slots i (xs ++ s ∷ []) ≡ filled_slots i xs ++ filled_slots j (s ∷ [])
filled_behind i j [] s at = let here : i ≡ j = omega arith in ap (λ n. filled_slots n (s ∷ [])) here
filled_behind i j (x ∷ xs) s at = let later = filled_behind (suc i) j xs s (omega arith) in grind arith

is_filled : (s : ArrSlot) → (s ≡ slot.Empty → ⊥) → IsFilled s
is_filled s other = grind arith

slots_spelled : (i : ℕ) (ss : List ArrSlot) → SpellEach (Gives slot_of) (items_by slot_data (filled_slots i ss)) (filled_slots i ss)
slots_spelled i [] = tt
slots_spelled i (s ∷ ss) = let later = slots_spelled (suc i) ss in grind arith

module _ (ss : List ArrSlot) (i : ℕ) (d : ArrSlot) (vs : List Value) (within : i < length ss) (so_far : items_view vs ≡ items_by slot_data (filled_slots 0 (take i ss))) where
  filled_take : filled_slots 0 (take (i + 1) ss) ≡ filled_slots 0 (take i ss) ++ filled_slots i (get_or ss i d ∷ [])
  filled_take = ap (filled_slots 0) (take_more ss i d within) ∙ filled_behind 0 i (take i ss) (get_or ss i d) (omega (arith, length-take i ss))

  pub one_more_value : (v : Value) → (get_or ss i d ≡ slot.Empty → ⊥) → view v ≡ slot_data (i, get_or ss i d) → items_view (vs ++ v ∷ []) ≡ items_by slot_data (filled_slots 0 (take (i + 1) ss))
  one_more_value v other is =
      rw (filled_take, filled_first i (get_or ss i d) [] (is_filled (get_or ss i d) other)) (items_written slot_data vs (filled_slots 0 (take i ss)) v (i, get_or ss i d) so_far is)

  pub no_more_value : get_or ss i d ≡ slot.Empty → items_view vs ≡ items_by slot_data (filled_slots 0 (take (i + 1) ss))
  no_more_value empty = rw (filled_take, empty, append-nil) so_far

-- the JSON value as which the array is written spells it
pub array_spelled : (a : ArrayParts) → SpellsArray (array_data a) a
array_spelled a = record { members = refl; cells = (items_by slot_data (filled_slots 0 a.cells), refl, slots_spelled 0 a.cells); head = refl; tail = refl }
