-- Two steps of a run depend on each other exactly if they have one actor, or one of them wrote
-- under a key where the other touched.
use Rattle.rd_equivalence.proofs.Prelude.{common_steps, false≢true, or_cases, or_parts, SegName, Place, segment_of, some_overlap, is_nothing, written, name_eq-refl, some_overlap-sym, Entry, depends, Key, At, In, is_under, is_under_some, search_key, value_key_of_place, whole_key, ◌≡◌, true, false, ◌||◌, inl, inr, Option, Some, None, refl, sym, ◌∙◌, arith, ne_eqb, option_map}
use Rattle.rd_depend.proofs.IndexFirst.{overlaps_under, overlaps-keys}
use Rattle.rd_equivalence.proofs.TakingOut.{AreApart, apart-sym}
use Rattle.rd_equivalence.proofs.TouchedKeys.{wrote_under, is_whole_of_segment}
use Rattle.std.proofs.lemmas.Bool.{false_from_ne_true}
use Rattle.rd_cell.specs.declared.places.Place.TheVariants as place

-- a step at the whole of a segment wrote
abbrev pub MakingWrote : Entry → Type 0
MakingWrote x = (t : SegName) → x.place ≡ Some (place.Whole t) → is_nothing x.wrote ≡ false

-- Where one wrote under a key and the other touched there, they depend on each other

overlap_under_key : (k : Key) (x : Entry) (o : Option Place) → MakingWrote x → wrote_under k x.place x.wrote ≡ true → is_under k o ≡ true
    → some_overlap (written x.place x.wrote) o ≡ true
overlap_under_key k x o made h g = grind (arith, common_steps)

-- steps that don't depend on each other are apart
pub apart_of_free : (x y : Entry) → MakingWrote x → MakingWrote y → depends x y ≡ false → AreApart x y
apart_of_free x y made_x made_y h = grind (arith, or_parts, overlap_under_key, some_overlap-sym)

-- Where they depend on each other they meet under a key

-- a step that wrote a cell wrote under the key of its value half
wrote_cell-under_value_key : (x : Entry) (p : Place) (k : Key) → written x.place x.wrote ≡ Some p → value_key_of_place p ≡ Some k → wrote_under k x.place x.wrote ≡ true
wrote_cell-under_value_key x p k w e = grind arith

wrote_own : (x : Entry) (p : Place) → written x.place x.wrote ≡ Some p → wrote_under (search_key p) x.place x.wrote ≡ true
wrote_own x p w = grind (arith, name_eq-refl)

-- a step that wrote a place of a segment touched under the segment's key
wrote-touched_segment : (x : Entry) (p : Place) (t : SegName) → written x.place x.wrote ≡ Some p → segment_of p ≡ Some t → is_under (In t) x.place ≡ true
wrote-touched_segment x p t w e = grind (arith, name_eq-refl)

made_it : (t : SegName) (o : Option Place) → is_under (At (place.Whole t)) o ≡ true → is_whole_of_segment t o ≡ true
made_it t o h = grind arith

-- of two steps that are apart, neither wrote a place that overlaps the other's
never_meet : (x y : Entry) (p : Place) → AreApart x y → written x.place x.wrote ≡ Some p → overlaps_under p y.place ≡ true → ⊥
never_meet x y p apart w h =
    elim (or_cases (is_under_some (value_key_of_place p) y.place) (is_under (search_key p) y.place || is_under_some (whole_key p) y.place) h) [
      | inl a ↦ by_value (value_key_of_place p) refl a
      | inr b ↦
          elim (or_cases (is_under (search_key p) y.place) (is_under_some (whole_key p) y.place) b) [
            | inl c ↦ apart.first (search_key p) (wrote_own x p w) c
            | inr d ↦ by_whole (segment_of p) refl d
          ]
    ]
  where
    by_value : (o : Option Key) → value_key_of_place p ≡ o → is_under_some o y.place ≡ true → ⊥
    by_value None e a = cc
    by_value (Some k) e a = apart.first k (wrote_cell-under_value_key x p k w e) a

    by_whole : (o : Option SegName) → segment_of p ≡ o → is_under_some (option_map (λ s. At (place.Whole s)) o) y.place ≡ true → ⊥
    by_whole None e d = cc
    by_whole (Some t) e d = apart.second (In t) (wrote-touched_segment x p t w e) (made_it t y.place d)

never_overlap : (x y : Entry) → AreApart x y → some_overlap (written x.place x.wrote) y.place ≡ false
never_overlap x y apart = grind (arith, overlaps-keys, false_from_ne_true, overlaps_under, never_meet)

never_back : (x y : Entry) → AreApart x y → some_overlap x.place (written y.place y.wrote) ≡ false
never_back x y apart = false_from_ne_true _ (λ h. false≢true (sym (never_overlap y x (apart-sym x y apart)) ∙ some_overlap-sym x.place (written y.place y.wrote) h))

pub free_of_apart : (x y : Entry) → AreApart x y → depends x y ≡ false
free_of_apart x y apart = λ i. ne_eqb x.event.actor y.event.actor apart.actors i || (never_overlap x y apart i || never_back x y apart i)
