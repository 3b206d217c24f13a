-- The value in a cell or slot: only a put gives it another one.
use Rattle.rd_origin.proofs.Prelude.{◌≡◌, ◌⊎◌, ℕ, Bool, true, false, inl, inr, refl, subst, Option, Some, None, IfSome, Result, Ok, Err, IfOk, arith, Place, Content, Access, Refusal, Contents, operand, Performed, perform, Cas2, Swap, share, performed_at, operate, result_map, cases_Bool, Operation, covers, Effect, effect, contents_after, is_cell_place, after_write-outside, holds_after_effect, operand-covered}
use Rattle.rd_cell.specs.declared.access.Access.TheVariants.{NoPlace, At, Make}
use Rattle.rd_cell.proofs.EffectLemmas.{not_written}
use Rattle.rd_cell.specs.declared.places.Place.TheVariants as place
use Rattle.rd_cell.specs.declared.contents.ArrSlot.TheVariants as slot
use Rattle.rd_cell.specs.declared.contents.Content.TheVariants as content

-- the value in a content, if there is one
abbrev pub held : Option Content → Option ℕ
held (Some (content.Cell c)) = c.val
held (Some (content.Val val)) = val
held (Some (content.Slot (slot.Value v))) = Some v
held _ = None

-- the value in a cell or a slot, if there is one: a cell has it in its value half
abbrev pub held_at : Contents → Place → Option ℕ
held_at at (place.Cell s i) = held (at (place.Val s i))
held_at at (place.ArrCell i) = held (at (place.ArrCell i))
held_at at _ = None

-- the value of this content, if it has one, is v
abbrev pub HasOnly : ℕ → Option Content → Type 0
HasOnly v o = (held o ≡ Some v) ⊎ (held o ≡ None)

-- the value in this cell or slot, if it has one, is v
abbrev pub HoldsOnly : ℕ → Contents → Place → Type 0
HoldsOnly v at q = (held_at at q ≡ Some v) ⊎ (held_at at q ≡ None)

-- after the access, the value in this cell or slot, if it has one, is v
abbrev pub LeavesOnly : ℕ → Contents → Place → Performed → Type 0
LeavesOnly v at q did = HoldsOnly v (contents_after did at) q

-- the operation writes no value, or only the one that it found
abbrev pub KeepsValue : Operation → Type 0
KeepsValue (Cas2 old new) = (new.val ≡ old.val) ⊎ (new.val ≡ None)
KeepsValue (Swap (slot.Value v)) = ⊥
KeepsValue _ = Unit {0}

-- What it writes holds no other value

-- what the effect writes, if anything, has the value v or none
abbrev WritesOnly : ℕ → Effect → Type 0
WritesOnly v f = IfSome f.writes (λ d. HasOnly v (Some d))

effect_holds : (v : ℕ) (op : Operation) (c : Content) → KeepsValue op → HasOnly v (Some c) → IfOk (effect op c) (WritesOnly v)
effect_holds v op c k h = grind arith

-- So the place has none after it

-- the places of the map that have values: value halves and slots
abbrev is_value_place : Place → Bool
is_value_place (place.Val s i) = true
is_value_place (place.ArrCell i) = true
is_value_place _ = false

not_cell : (r : Place) → is_value_place r ≡ true → is_cell_place r ≡ true → ⊥
not_cell r h e = grind arith

-- a place's share of a content has no other value than the content
share_has : (v : ℕ) (p : Place) (d : Content) (r : Place) → HasOnly v (Some d) → HasOnly v (share p (Some d) r)
share_has v p d r h = grind arith

-- a content has no other value than its share at a value half or a slot
share_had : (v : ℕ) (p : Place) (c : Content) (r : Place) → is_value_place r ≡ true → covers p r ≡ true → HasOnly v (share p (Some c) r) → HasOnly v (Some c)
share_had v p c r k e h = grind arith

-- a place that has no content has no value, whatever an operation did
always_none : (v : ℕ) (r : Result Performed Refusal) → IfOk r (λ did. HasOnly v None)
always_none v r = grind arith

after_effect : (v : ℕ) (p : Place) (c : Content) (at : Contents) (r : Place) (f : Effect) → WritesOnly v f → HasOnly v (at r)
    → HasOnly v (contents_after (performed_at p c f) at r)
after_effect v p c at r f writes h = holds_after_effect (HasOnly v) (λ d. HasOnly v (Some d)) p c f at r h writes (λ d k within. share_has v p d r k)

kept_effect : (v : ℕ) (p : Place) (c : Content) (at : Contents) (r : Place) (x : Result Effect Refusal) → IfOk x (WritesOnly v) → HasOnly v (at r)
    → IfOk (result_map (performed_at p c) x) (λ did. HasOnly v (contents_after did at r))
kept_effect v p c at r (Err refusal) w h = tt
kept_effect v p c at r (Ok f) w h = after_effect v p c at r f w h

-- a place that an operation's place doesn't cover keeps its value
outside_effect : (v : ℕ) (p : Place) (c : Content) (at : Contents) (r : Place) (x : Result Effect Refusal) → covers p r ≡ false → HasOnly v (at r)
    → IfOk (result_map (performed_at p c) x) (λ did. HasOnly v (contents_after did at r))
outside_effect v p c at r x e h = grind (arith, after_write-outside, not_written)

kept_there : (v : ℕ) (p : Place) (op : Operation) (o : Option Content) (at : Contents) (r : Place) → operand at p ≡ o → is_value_place r ≡ true → KeepsValue op
    → HasOnly v (at r) → IfOk (operate p op o) (λ did. HasOnly v (contents_after did at r))
kept_there v p op None at r found kind k h = tt
kept_there v p op (Some c) at r found kind k h =
    elim (cases_Bool (covers p r)) [
      | inl e ↦
          let had : HasOnly v (share p (Some c) r) =
          subst (HasOnly v) (operand-covered p at c r found (λ cell. absurd (not_cell r kind cell)) e) h in
          kept_effect v p c at r (effect op c) (effect_holds v op c k (share_had v p c r kind e had)) h
      | inr e ↦ outside_effect v p c at r (effect op c) e h
    ]

kept_operate : (v : ℕ) (p : Place) (op : Operation) (o : Option Content) (at : Contents) (q : Place) → operand at p ≡ o → KeepsValue op
    → HoldsOnly v at q → IfOk (operate p op o) (LeavesOnly v at q)
kept_operate v p op o at (place.Cell t j) found k h = kept_there v p op o at (place.Val t j) found refl k h
kept_operate v p op o at (place.ArrCell i) found k h = kept_there v p op o at (place.ArrCell i) found refl k h
kept_operate v p op o at _ found k h = always_none v (operate p op o)

-- the access writes no value, or only the one that it found
abbrev pub AccessKeeps : Access → Type 0
AccessKeeps NoPlace = Unit {0}
AccessKeeps (At p op) = KeepsValue op
AccessKeeps (Make x) = ⊥

-- such an access leaves the cell with its value or none
pub kept_access : (v R n : ℕ) (at : Contents) (q : Place) (x : Access) → AccessKeeps x → HoldsOnly v at q → IfOk (perform R n at x) (LeavesOnly v at q)
kept_access v R n at q x k h = grind (arith, kept_operate)
