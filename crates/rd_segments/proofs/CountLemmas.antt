-- The number of segments that a maker has made is the same in the map and in its list.
use Rattle.rd_segments.proofs.Prelude.{◌≡◌, ℕ, zero, suc, ◌+◌, ◌<◌, ◌≤◌, true, false, inl, inr, ◌∙◌, arith, List, Vec, Global, Option, is_some, slice_get, cases_lt, cond-true, cond-false, slice_get_past, MOST_SEGMENTS, SegName, Segment, ArrayParts, ListOf, element_in, some_contents, count_in, segment_count, contents_of_fields, is_there, number_made_from, number_made}
use Rattle.rd_cell.proofs.ListLemmas.{slice_get-is_some}
use Rattle.rd_cell.specs.declared.places.Place.TheVariants as place

-- a number below the length of a maker's list has an element
pub numbered_there : {X : Type 0} (o : Option (Vec X Global)) (n : ℕ) → n < count_in o → is_some (element_in o n) ≡ true
numbered_there o n h = grind (arith, slice_get-is_some)

-- a number from the length of a maker's list on has no element
pub numbered_absent : {X : Type 0} (o : Option (Vec X Global)) (n : ℕ) → count_in o ≤ n → is_some (element_in o n) ≡ false
numbered_absent o n h = grind (arith, is_some, slice_get_past)

-- a segment's head is there exactly if the segment is
head_there : {R : ℕ} (o : Option (Segment R)) (s : SegName) → is_some (some_contents o (place.Head s)) ≡ is_some o
head_there o s = grind arith

-- a segment whose number is below its maker's count is there
pub there_below : {R : ℕ} (makers : List (ListOf (Segment R))) (qhead qtail : SegName) (array : ArrayParts) (m n : ℕ) → n < segment_count makers m
    → is_there (contents_of_fields makers qhead qtail array) (record { maker = m; n = n }) ≡ true
there_below makers qhead qtail array m n h = grind (arith, head_there, numbered_there, slice_get)

-- a segment whose number is its maker's count or more is not there
pub absent_from : {R : ℕ} (makers : List (ListOf (Segment R))) (qhead qtail : SegName) (array : ArrayParts) (m n : ℕ) → segment_count makers m ≤ n
    → is_there (contents_of_fields makers qhead qtail array) (record { maker = m; n = n }) ≡ false
absent_from makers qhead qtail array m n h = grind (arith, head_there, numbered_absent, slice_get)

-- counting on in the map from number n ends at the length of the maker's list, if n is not past it
-- and the bound reaches it
counts_from : {R : ℕ} (makers : List (ListOf (Segment R))) (qhead qtail : SegName) (array : ArrayParts) (more m n : ℕ) → n ≤ segment_count makers m → segment_count makers m ≤ n + more
    → number_made_from more (contents_of_fields makers qhead qtail array) m n ≡ segment_count makers m
unfolding number_made_from
counts_from makers qhead qtail array zero m n low high = omega arith
counts_from makers qhead qtail array (suc more) m n low high =
    elim (cases_lt n (segment_count makers m)) [
      | inl lt ↦
          cond-true _ (number_made_from more (contents_of_fields makers qhead qtail array) m (n + 1)) n (there_below makers qhead qtail array m n lt)
          ∙ counts_from makers qhead qtail array more m (n + 1) (omega arith) (omega arith)
      | inr past ↦
          cond-false _ (number_made_from more (contents_of_fields makers qhead qtail array) m (n + 1)) n (absent_from makers qhead qtail array m n past) ∙ (omega arith)
    ]

-- counting a maker's segments in the map gives the length of its list
pub counts : {R : ℕ} (makers : List (ListOf (Segment R))) (qhead qtail : SegName) (array : ArrayParts) (m : ℕ) → segment_count makers m ≤ MOST_SEGMENTS
    → number_made (contents_of_fields makers qhead qtail array) m ≡ segment_count makers m
unfolding number_made
counts makers qhead qtail array m h = counts_from makers qhead qtail array MOST_SEGMENTS m 0 (omega arith) h
