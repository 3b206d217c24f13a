-- The makers' lists after a change of one segment.
use Rattle.rd_segments.proofs.Prelude.{◌≡◌, ◌≢◌, ℕ, ◌+◌, ◌-◌, ◌<◌, ◌≤◌, true, if◌then◌else◌, ◌⊎◌, refl, ◌∙◌, ap, arith, List, take, length, set, get_or, Option, Some, None, is_some, slice_get, eq-eqb, ne_eqb, Result, OnErr, OnOk, with_item, cond-true, cond-false, and_left, and_right, slice_get_past, slice_get_read, slice_get-get_or, SegName, Place, operand, slice_get-set_same, slice_get-set_other, Segment, ListOf, element_in, by_name, some_contents, segment_count, SetsSegmentOnly, MakesNext, room_in_list, room_of_maker, and_from, slice_get_cases, slice_get_within, slice_get-push_same, slice_get-push_other, slice_get-take_same, slice_get-take_other, room_used, Err, Refusal, KeepsMakersRoom, UsesMakersRoom, ReturnsMakersRoom, AddsMakersRoom, makers_room}
use Rattle.std.specs.declared.alloc.AllocError.{AllocError}
use Rattle.std.specs.Result.{is_ok}
use Rattle.std.proofs.lemmas.List.{length-set}
use Rattle.rd_cell.specs.declared.refusal.Refusal.TheVariants as refusal

-- changing a maker's list at one number alone changes the segment of that name alone
pub list_changed : {R : ℕ} (old : List (ListOf (Segment R))) (m n : ℕ) (was now : ListOf (Segment R)) (o : Option (Segment R)) → slice_get old m ≡ Some was
    → ((k : ℕ) → k ≢ n → slice_get now.items k ≡ slice_get was.items k) → slice_get now.items n ≡ o
    → SetsSegmentOnly (record { maker = m; n = n }) o old (set old m now)
list_changed {R} old m n was now o there others here = grind (arith, slice_get, slice_get-set_same, slice_get_within, cond-true, and_from, eq-eqb, cond-false, and_right, ne_eqb, slice_get-set_other, and_left)

-- a list read at a maker's number is that maker's, if the maker has a segment
maker_list : {R : ℕ} (makers : List (ListOf (Segment R))) (m n : ℕ) (list : ListOf (Segment R)) → is_some (element_in (slice_get makers m) n) ≡ true
    → list ≡ get_or makers m list → slice_get makers m ≡ Some list
maker_list makers m n list there read = grind (arith, slice_get-get_or, is_some, slice_get_past)

-- the number of a segment that is there is below the length of its maker's list
number_within : {R : ℕ} (makers : List (ListOf (Segment R))) (name : SegName) (list : ListOf (Segment R)) → slice_get makers name.maker ≡ Some list
    → is_some (by_name makers name) ≡ true → name.n < length list.items
number_within makers name list found there = grind (arith, is_some, slice_get_past)

-- the segment that is read from the list at a name's numbers is the segment of that name
pub named_is : {R : ℕ} (makers : List (ListOf (Segment R))) (name : SegName) (m : ℕ) (list : ListOf (Segment R)) (segment : Segment R) → m ≡ name.maker
    → is_some (by_name makers name) ≡ true → list ≡ get_or makers m list → segment ≡ get_or list.items name.n segment → by_name makers name ≡ Some segment
named_is makers name m list segment is there read held = grind (arith, maker_list, get_or, slice_get-get_or, number_within)

-- writing the segment of a name in its list changes that segment alone
pub segment_written : {R : ℕ} (makers : List (ListOf (Segment R))) (name : SegName) (m : ℕ) (list : ListOf (Segment R)) (segment : Segment R) → m ≡ name.maker
    → is_some (by_name makers name) ≡ true → list ≡ get_or makers m list
    → SetsSegmentOnly name (Some segment) makers (set makers m (with_item list name.n segment))
segment_written {R} makers name m list segment is there read =
    let found = maker_list makers name.maker name.n list there (read ∙ ap (λ (k : ℕ). get_or makers k list) is) in
    let within : name.n < length list.items = number_within makers name list found there in
    let changed = list_changed makers name.maker name.n list (with_item list name.n segment) (Some segment) found
    (λ k ne. slice_get-set_other list.items name.n k segment ne) (slice_get-set_same list.items name.n segment within) in
    grind arith

-- writing a segment in a list leaves the room of every maker
spare_written : {R : ℕ} (makers : List (ListOf (Segment R))) (m n : ℕ) (list : ListOf (Segment R)) (segment : Segment R) → m < length makers → list ≡ get_or makers m list
    → (k : ℕ) → room_of_maker (set makers m (with_item list n segment)) k ≡ room_of_maker makers k
spare_written makers m n list segment within read k = grind (arith, slice_get, slice_get-set_same, slice_get-get_or, slice_get-set_other)

-- writing a segment in a list leaves the room of every maker, and the number of lists
pub written_keeps : {R : ℕ} (makers : List (ListOf (Segment R))) (m n : ℕ) (list : ListOf (Segment R)) (segment : Segment R) → m < length makers → list ≡ get_or makers m list
    → KeepsMakersRoom (makers_room makers) (makers_room (set makers m (with_item list n segment)))
written_keeps makers m n list segment within read = grind (arith, length-set, spare_written)

-- the maker of a segment that is there has a list
pub maker_within : {R : ℕ} (makers : List (ListOf (Segment R))) (name : SegName) → is_some (by_name makers name) ≡ true → name.maker < length makers
maker_within makers name there = grind (arith, is_some, slice_get_past)

-- where an operation finds a content, there is a segment
pub segment_there : {R : ℕ} (o : Option (Segment R)) (p : Place) → is_some (operand (some_contents o) p) ≡ true → is_some o ≡ true
segment_there o p h = grind arith

-- a segment is there if its number is below the length of its maker's list
pub found_there : {R : ℕ} (makers : List (ListOf (Segment R))) (name : SegName) (m : ℕ) (list : ListOf (Segment R)) → m ≡ name.maker → m < length makers
    → list ≡ get_or makers m list → name.n < length list.items → is_some (by_name makers name) ≡ true
found_there makers name m list is within read below = grind (arith, slice_get-get_or, slice_get_cases)

-- after one maker's list is replaced, that maker has the new list's room, and every other its own
spare_replaced : {R : ℕ} (makers : List (ListOf (Segment R))) (m : ℕ) (list left : ListOf (Segment R)) → m < length makers → list ≡ get_or makers m list
    → (k : ℕ) → ((k ≡ m) × (room_of_maker (set makers m left) k ≡ room_in_list (Some left)) × (room_of_maker makers k ≡ room_in_list (Some list)))
    ⊎ ((k ≡ m → ⊥) × (room_of_maker (set makers m left) k ≡ room_of_maker makers k))
spare_replaced makers m list left within read k = grind (arith, slice_get, slice_get-set_same, slice_get-get_or, slice_get-set_other)

-- lengthening a maker's list adds the new segment under its name, and changes no other
pub list_lengthened : {R : ℕ} (makers : List (ListOf (Segment R))) (maker m value : ℕ) (name : SegName) (list left : ListOf (Segment R)) → m ≡ maker → maker < length makers
    → list ≡ get_or makers m list → (h : MakesNext maker value name list left) → SetsSegmentOnly name (Some h.segment) makers (set makers m left)
list_lengthened {R} makers maker m value name list left is within read h =
    let changed = list_changed makers maker (length list.items) list left (Some h.segment)
    (slice_get_read makers (length makers) maker list refl within (read ∙ ap (λ (k : ℕ). get_or makers k list) is))
    (λ k ne. ap (λ xs. slice_get xs k) h.pushed ∙ slice_get-push_other list.items h.segment k ne)
    (ap (λ xs. slice_get xs (length list.items)) h.pushed ∙ slice_get-push_same list.items h.segment) in
    grind arith

-- replacing a list by one with the same segments changes no segment
pub list_same : {R : ℕ} (makers : List (ListOf (Segment R))) (maker m : ℕ) (list left : ListOf (Segment R)) → m ≡ maker → maker < length makers
    → list ≡ get_or makers m list → left.items ≡ list.items → (t : SegName) → by_name (set makers m left) t ≡ by_name makers t
list_same makers maker m list left is within read same t = grind (arith, slice_get, slice_get-set_same, slice_get-get_or, slice_get-set_other)

-- The room after a list took another's place

-- a making that used at most 1 of its list's room used at most 1 of its maker's, and none of
-- others'
pub made_uses : {R : ℕ} {T : Type 0} (makers : List (ListOf (Segment R))) (maker m : ℕ) (list left : ListOf (Segment R)) (r : Result T Refusal) → m ≡ maker
    → maker < length makers → list ≡ get_or makers m list → room_in_list (Some list) ≤ room_in_list (Some left) + (if is_ok r then 1 else 0)
    → (r ≡ Err refusal.SegmentsEnd → room_in_list (Some left) ≡ room_in_list (Some list)) → UsesMakersRoom r true maker (makers_room makers) (makers_room (set makers m left))
made_uses makers maker m list left r is within read room ended = grind (arith, length-set, spare_replaced)

-- a list that got 1 more room gives its maker 1 more, and leaves the room of all others
pub given_returns : {R : ℕ} (makers : List (ListOf (Segment R))) (maker m : ℕ) (list left : ListOf (Segment R)) → m ≡ maker → maker < length makers
    → list ≡ get_or makers m list → room_in_list (Some left) ≡ room_in_list (Some list) + 1
    → ReturnsMakersRoom (room_used true maker) (makers_room makers) (makers_room (set makers m left))
given_returns makers maker m list left is within read room = grind (arith, length-set, spare_replaced)

-- after a maker's list is replaced, the maker has the new list's room
spare_here : {R : ℕ} (makers : List (ListOf (Segment R))) (maker m : ℕ) (left : ListOf (Segment R)) → m ≡ maker → maker < length makers
    → room_of_maker (set makers m left) maker ≡ room_in_list (Some left)
spare_here makers maker m left is within = grind (arith, slice_get, slice_get-set_same)

-- a reservation in one maker's list adds room for that maker alone
pub reserved_adds : {R : ℕ} (makers : List (ListOf (Segment R))) (maker m more : ℕ) (list left : ListOf (Segment R)) (r : Result (Unit {0}) AllocError) → m ≡ maker
    → maker < length makers → list ≡ get_or makers m list → OnOk r (more ≤ room_in_list (Some left)) → OnErr r (room_in_list (Some list) < more)
    → room_in_list (Some list) ≤ room_in_list (Some left) → AddsMakersRoom r maker more (makers_room makers) (makers_room (set makers m left))
reserved_adds makers maker m more list left r is within read ok err room = grind (arith, length-set, spare_here, slice_get-get_or, spare_replaced)

-- a maker whose count is above 0 has a list
pub count_within : {R : ℕ} (makers : List (ListOf (Segment R))) (m : ℕ) → 0 < segment_count makers m → m < length makers
count_within makers m h = grind (arith, slice_get_past)

-- removing the last element of a maker's list removes its last segment, and changes no other
pub last_taken : {R : ℕ} (makers : List (ListOf (Segment R))) (maker m : ℕ) (list left : ListOf (Segment R)) → m ≡ maker → maker < length makers
    → list ≡ get_or makers m list → left.items ≡ take (length list.items - 1) list.items
    → SetsSegmentOnly (record { maker = maker; n = segment_count makers maker - 1 }) None makers (set makers m left)
last_taken {R} makers maker m list left is within read items =
    let found : slice_get makers maker ≡ Some list = slice_get_read makers (length makers) maker list refl within (read ∙ ap (λ (k : ℕ). get_or makers k list) is) in
    let changed = list_changed makers maker (length list.items - 1) list left None found in
    grind (arith, slice_get-take_other, slice_get-take_same)
