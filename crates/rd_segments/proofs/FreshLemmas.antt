-- A space is fresh exactly if its ends, its array and its makers' lists are.
use Rattle.rd_segments.proofs.Prelude.{◌≡◌, ℕ, suc, ◌-◌, ◌≤◌, if◌then◌else◌, All, List, [], ◌++◌, ◌∷◌, length, get_or, take, drop, slice_get, Option, Some, None, refl, sym, ap, ◌∙◌, arith, lt-ltb, common_steps, cond-true, slice_get-get_or, fun_ext, name_eq-true, SegName, Place, Content, root, name_eq, Contents, fresh_segment, Segment, segment_contents, ListOf, element_in, by_name, some_contents, AreFreshLists, IsOneFreshSegment, ArrayParts, array_contents, fresh_array, contents_of_fields, fresh_space, take_rest, slice_get_cases, slice_get_past, slice_get-push_same, slice_get-push_other}
use Rattle.rd_cell.specs.declared.places.Place.TheVariants as place
use Rattle.rd_cell.specs.declared.contents.ArrSlot.TheVariants as slot
use Rattle.rd_cell.specs.declared.contents.Content.TheVariants as content

-- ---- the array

-- an array with fresh contents has fresh counters and slots
module _ (a : ArrayParts) (e : array_contents a ≡ fresh_array) where
  pub array_counters : (a.head ≡ 0) × (a.tail ≡ 0)
  array_counters = (grind (arith, ap (λ (f : Contents). f place.ArrHead) e), grind (arith, ap (λ (f : Contents). f place.ArrTail) e))

  pub array_slots : All (λ x. x ≡ slot.Empty) a.cells
  array_slots k d within =
      let at : array_contents a (place.ArrCell k) ≡ fresh_array (place.ArrCell k) = ap (λ (f : Contents). f (place.ArrCell k)) e in
      grind (arith, a.sized, slice_get-get_or, cond-true, lt-ltb)

-- ---- the makers' lists

module _ {R : ℕ} where
  -- a list of one fresh segment has just that segment
  pub one_alone : (s : Segment R) → ((q : Place) → segment_contents s q ≡ fresh_segment R q) → IsOneFreshSegment (s ∷ [])
  one_alone s parts = record { segment = s; fresh_contents = parts; alone = refl }

  -- the one segment of such a list is fresh
  pub alone_one : (s : Segment R) → IsOneFreshSegment (s ∷ []) → (q : Place) → segment_contents s q ≡ fresh_segment R q
  alone_one s h q = let same : s ≡ h.segment = cc (h.alone) in ap (λ (x : Segment R). segment_contents x q) same ∙ h.fresh_contents q

  -- a list of length 1 is its first element alone
  pub only_one : (ss : List (Segment R)) (s : Segment R) → length ss ≡ 1 → s ≡ get_or ss 0 s → ss ≡ s ∷ []
  only_one ss s len is = grind (arith, common_steps)

  -- a list that isn't empty is its first element followed by the others
  pub first_and_others : (makers : List (ListOf (Segment R))) (first : ListOf (Segment R)) → 1 ≤ length makers → first ≡ get_or makers 0 first
      → makers ≡ first ∷ take (length makers - 1) (drop 1 makers)
  first_and_others makers first some is = grind (arith, common_steps, take_rest)

  none_in : (lists : List (ListOf (Segment R))) (m n : ℕ) → All (λ list. list.items ≡ []) lists → element_in (slice_get lists m) n ≡ None
  none_in lists m n h = grind (arith, slice_get_cases)

  other_maker : (m n : ℕ) (s : Segment R) → (if name_eq root (record { maker = suc m; n = n }) then Some s else None) ≡ None
  other_maker m n s = grind arith

  -- if the first list has just this segment and all others are empty, that segment is the root, and
  -- there is no other
  pub root_alone : (first : ListOf (Segment R)) (lists : List (ListOf (Segment R))) (s : Segment R) → first.items ≡ s ∷ [] → All (λ list. list.items ≡ []) lists → (m n : ℕ)
      → element_in (slice_get (first ∷ lists) m) n ≡ (if name_eq root (record { maker = m; n = n }) then Some s else None)
  root_alone first lists s one none m n = grind (arith, none_in)

  -- one more list, which is empty, leaves the segment of each name
  pub by_name-push_empty : (old new : List (ListOf (Segment R))) (list : ListOf (Segment R)) → new ≡ old ++ list ∷ [] → list.items ≡ [] → (t : SegName) → by_name new t ≡ by_name old t
  by_name-push_empty old new list pushed none t = grind (arith, slice_get-push_same, slice_get-push_other, slice_get_past)

  -- lists are fresh if the first has just a fresh segment and all others are empty
  pub fresh_lists : (first : ListOf (Segment R)) (lists : List (ListOf (Segment R))) → IsOneFreshSegment first.items → All (λ list. list.items ≡ []) lists → AreFreshLists (first ∷ lists)
  fresh_lists first lists h none = record {
    segment = h.segment;
    fresh_contents = h.fresh_contents;
    at = λ t. root_alone first lists h.segment h.alone none t.maker t.n;
  }

  -- conversely, the lists of a fresh space are not empty, since they have the root
  pub no_lists : (makers : List (ListOf (Segment R))) → makers ≡ [] → AreFreshLists makers → ⊥
  no_lists makers e h = grind (arith, h.at root)

  only_first : (ss : List (Segment R)) (s : Segment R) → slice_get ss 0 ≡ Some s → slice_get ss 1 ≡ None → ss ≡ s ∷ []
  only_first ss s one two = grind (arith, common_steps, slice_get_cases, only_one)

  no_first : (ss : List (Segment R)) → slice_get ss 0 ≡ None → ss ≡ []
  no_first ss h = grind (arith, common_steps, slice_get_cases)

  module _ (first : ListOf (Segment R)) (lists : List (ListOf (Segment R))) (h : AreFreshLists (first ∷ lists)) where
    pub first_alone : IsOneFreshSegment first.items
    first_alone = record {
      segment = h.segment;
      fresh_contents = h.fresh_contents;
      alone = only_first first.items h.segment (h.at root) (h.at (record { maker = 0; n = 1 }));
    }

    pub others_empty : All (λ list. list.items ≡ []) lists
    others_empty k d within =
        no_first (get_or lists k d).items (ap (λ o. element_in o 0) (sym (slice_get-get_or lists k d within)) ∙ h.at (record { maker = suc k; n = 0 }) ∙ other_maker k 0 h.segment)

-- ---- the space

some_segment : {R : ℕ} (o : Option (Segment R)) (c : Content) → some_contents o (place.Head root) ≡ Some c → (s : Segment R) × (o ≡ Some s)
some_segment None c h = absurd (cc)
some_segment (Some s) c h = (s, refl)

no_segment : {R : ℕ} (o : Option (Segment R)) (t : SegName) → some_contents o (place.Head t) ≡ None → o ≡ None
no_segment o t h = grind arith

module _ {R : ℕ} (makers : List (ListOf (Segment R))) (qhead qtail : SegName) (array : ArrayParts) (e : contents_of_fields makers qhead qtail array ≡ fresh_space R) where
  at : (q : Place) → contents_of_fields makers qhead qtail array q ≡ fresh_space R q
  at q = ap (λ (f : Contents). f q) e

  pub fresh_ends : (qhead ≡ root) × (qtail ≡ root)
  fresh_ends = (grind (arith, at place.QHead), grind (arith, at place.QTail))

  array_at : (q : Place) → array_contents array q ≡ fresh_array q
  array_at q = grind (arith, at q)

  root_parts : (s : Segment R) → by_name makers root ≡ Some s → (q : Place) → segment_contents s q ≡ fresh_segment R q
  root_parts s is (place.Head t) = ap (λ o. some_contents o (place.Head root)) (sym is) ∙ at (place.Head root)
  root_parts s is (place.Tail t) = ap (λ o. some_contents o (place.Tail root)) (sym is) ∙ at (place.Tail root)
  root_parts s is (place.Next t) = ap (λ o. some_contents o (place.Next root)) (sym is) ∙ at (place.Next root)
  root_parts s is (place.Val t i) = ap (λ o. some_contents o (place.Val root i)) (sym is) ∙ at (place.Val root i)
  root_parts s is (place.Idx t i) = ap (λ o. some_contents o (place.Idx root i)) (sym is) ∙ at (place.Idx root i)
  root_parts s is _ = refl

  by_names : (s : Segment R) → by_name makers root ≡ Some s → (t : SegName) → by_name makers t ≡ (if name_eq root t then Some s else None)
  by_names s is t = grind (arith, name_eq-true, no_segment, at (place.Head t))

  pub fresh_inside : (array_contents array ≡ fresh_array) × AreFreshLists makers
  fresh_inside =
      let found = some_segment (by_name makers root) (content.Number 0) (at (place.Head root)) in
      (fun_ext array_at, record { segment = found.0; fresh_contents = root_parts found.0 found.1; at = by_names found.0 found.1 })
