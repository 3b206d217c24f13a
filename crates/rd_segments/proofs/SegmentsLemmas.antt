-- The segments' places after a change of one segment.
use Rattle.rd_segments.proofs.Prelude.{◌≡◌, ℕ, ◌-◌, ◌<◌, true, false, if◌then◌else◌, refl, ◌∙◌, ap, arith, List, take, length, slice_get_read, set, get_or, Option, Some, None, is_some, slice_get, Result, Ok, Err, IfOk, IfErr, OnErr, lt-ltb, vec_len, vec_capacity, common_steps, with_item, cases_Bool, cond-true, cond-false, SegName, Place, Content, Operation, Done, Refusal, name_eq, is_of_segment, segment_of, Contents, operand, operate, everywhere, Operates, Makes, Restores, name_eq-refl, Agrees, operand_agrees, lift_operates, lift_restore, Segment, segment_contents, ListOf, by_name, contents_of_lists, segment_count, SetsSegmentOnly, MakesNext, room_of_maker, is_of_same_segment, segment_holding, RefusesMaking, is_of_same_segment-segment_of, not_covered_outside}
use Rattle.rd_segments.proofs.ListsLemmas.{named_is, segment_written, list_lengthened, list_same, last_taken}
use Rattle.rd_cell.specs.declared.places.Place.TheVariants as place

-- a segment's own places have the contents that the map has under its name
pub contents_of_lists-own_places : {R : ℕ} (makers : List (ListOf (Segment R))) (name : SegName) (segment : Segment R) (q : Place) → by_name makers name ≡ Some segment
    → is_of_segment name q ≡ true → segment_contents segment q ≡ contents_of_lists makers q
contents_of_lists-own_places {R} makers name segment q there h = grind arith

-- a change of one segment leaves the places of all others
pub segments_other : {R : ℕ} (old new : List (ListOf (Segment R))) (name : SegName) (o : Option (Segment R)) (q : Place) → SetsSegmentOnly name o old new
    → is_of_segment name q ≡ false → contents_of_lists new q ≡ contents_of_lists old q
segments_other {R} old new name o q changes h = grind arith

-- lists with the same segment under each name have the same contents
pub segments_same : {R : ℕ} (old new : List (ListOf (Segment R))) → ((t : SegName) → by_name new t ≡ by_name old t) → contents_of_lists new ≡ contents_of_lists old
segments_same {R} old new same = grind arith

-- after a change, the changed name has its new segment, or none
changed_here : {R : ℕ} (old new : List (ListOf (Segment R))) (name : SegName) (o : Option (Segment R)) → SetsSegmentOnly name o old new → by_name new name ≡ o
changed_here old new name o changes = changes.at name ∙ cond-true (name_eq name name) o (by_name old name) (name_eq-refl name)

-- a change of one segment agrees with the change of the map of all segments
segment_agrees : {R : ℕ} (old new : List (ListOf (Segment R))) (name : SegName) (before left : Segment R) (p : Place) → by_name old name ≡ Some before
    → SetsSegmentOnly name (Some left) old new → segment_of p ≡ Some name
    → Agrees (is_of_same_segment p) p (segment_contents before) (segment_contents left) (contents_of_lists old) (contents_of_lists new)
segment_agrees old new name before left p there changes own = grind (arith, contents_of_lists-own_places, is_of_same_segment-segment_of, changed_here, not_covered_outside, segments_other)

-- the code reads `before`, the segment to which p belongs, in `list`, which it reads at maker m
pub record Reads {R : ℕ} (makers : List (ListOf (Segment R))) (name : SegName) (m : ℕ) (list : ListOf (Segment R)) (before : Segment R) (p : Place) : Type 0 where
  pub maker : m ≡ name.maker
  pub there : is_some (by_name makers name) ≡ true
  pub list_is : list ≡ get_or makers m list
  pub segment_is : before ≡ get_or list.items name.n before
  pub own : segment_of p ≡ Some name

-- a change of the segment that was read agrees with the change of the map of all segments
reads_agree : {R : ℕ} (makers : List (ListOf (Segment R))) (name : SegName) (m : ℕ) (list : ListOf (Segment R)) (before left : Segment R) (p : Place)
    → Reads makers name m list before p
    → Agrees (is_of_same_segment p) p (segment_contents before) (segment_contents left) (contents_of_lists makers) (contents_of_lists (set makers m (with_item list name.n left)))
reads_agree makers name m list before left p h = grind (arith, common_steps, segment_agrees, named_is, segment_written)

-- an operation done on the segment that was read is done on all segments
pub operates_in : {R : ℕ} (makers : List (ListOf (Segment R))) (name : SegName) (m : ℕ) (list : ListOf (Segment R)) (before left : Segment R) (p : Place) (op : Operation)
    → Reads makers name m list before p → (r : Result Done Refusal) → IfOk r (λ done. Operates (is_of_same_segment p) p op done (segment_contents before) (segment_contents left))
    → IfOk r (λ done. Operates everywhere p op done (contents_of_lists makers) (contents_of_lists (set makers m (with_item list name.n left))))
operates_in makers name m list before left p op reads r h =
    let agrees = reads_agree makers name m list before left p reads in grind (arith, lift_operates)

-- an operation that the segment that was read refuses is refused for the same cause on all segments
pub refuses_in : {R : ℕ} (makers : List (ListOf (Segment R))) (name : SegName) (m : ℕ) (list : ListOf (Segment R)) (before left : Segment R) (p : Place) (op : Operation)
    → Reads makers name m list before p → (r : Result Done Refusal) → IfErr r (λ e. operate p op (operand (segment_contents before) p) ≡ Err e)
    → IfErr r (λ e. operate p op (operand (contents_of_lists makers) p) ≡ Err e)
refuses_in makers name m list before left p op reads r h =
    let agrees = reads_agree makers name m list before left p reads in grind (arith, operand_agrees)

-- if an error leaves the segment that was read, it leaves all segments
pub unchanged_in : {R : ℕ} (makers : List (ListOf (Segment R))) (name : SegName) (m : ℕ) (list : ListOf (Segment R)) (before left : Segment R) (p : Place)
    → Reads makers name m list before p → (r : Result Done Refusal) → OnErr r (left ≡ before)
    → OnErr r (contents_of_lists (set makers m (with_item list name.n left)) ≡ contents_of_lists makers)
unchanged_in makers name m list before left p reads r same =
    let agrees = reads_agree makers name m list before left p reads in grind arith

-- a content put back in the segment that was read is put back in the map of all segments
pub restores_in : {R : ℕ} (makers : List (ListOf (Segment R))) (name : SegName) (m : ℕ) (list : ListOf (Segment R)) (before left : Segment R) (p : Place) (c : Content)
    → Reads makers name m list before p → Restores (is_of_same_segment p) p (Some c) (segment_contents before) (segment_contents left)
    → Restores everywhere p (Some c) (contents_of_lists makers) (contents_of_lists (set makers m (with_item list name.n left)))
restores_in makers name m list before left p c reads h = λ q _.
    lift_restore (is_of_same_segment p) p (Some c) (segment_contents before) (segment_contents left) (contents_of_lists makers) (contents_of_lists (set makers m (with_item list name.n left)))
    (reads_agree makers name m list before left p reads) h q

-- Makings

-- after a change of one segment, its places have the contents `news`, and all others their own
contents_of_lists-changed : {R : ℕ} (old new : List (ListOf (Segment R))) (name : SegName) (o : Option (Segment R)) (news : Contents) (q : Place) → SetsSegmentOnly name o old new
    → ((s : Segment R) (x : Place) → o ≡ Some s → segment_contents s x ≡ news x) → (o ≡ None → (x : Place) → news x ≡ None)
    → contents_of_lists new q ≡ (if is_of_segment name q then news q else contents_of_lists old q)
contents_of_lists-changed old new name o news q changes holds none = grind (arith, cases_Bool, contents_of_lists-own_places, changed_here, cond-true, segments_other, cond-false)

-- the code reads `list` at the number m of a maker that has a list
pub record ReadsList {R : ℕ} (makers : List (ListOf (Segment R))) (maker m : ℕ) (list : ListOf (Segment R)) : Type 0 where
  pub maker_is : m ≡ maker
  pub within : maker < length makers
  pub list_is : list ≡ get_or makers m list

-- the list that is read is the maker's
list_found : {R : ℕ} (makers : List (ListOf (Segment R))) (maker m : ℕ) (list : ListOf (Segment R)) → ReadsList makers maker m list → slice_get makers maker ≡ Some list
list_found makers maker m list h = slice_get_read makers (length makers) maker list refl h.within (h.list_is ∙ ap (λ (k : ℕ). get_or makers k list) h.maker_is)

-- lengthening the list that was read makes the segment in the map
pub makes_in : {R : ℕ} (makers : List (ListOf (Segment R))) (maker m value : ℕ) (list left : ListOf (Segment R)) → ReadsList makers maker m list
    → (r : Result SegName Refusal) → IfOk r (λ name. MakesNext maker value name list left)
    → IfOk r (λ name. Makes name (segment_holding R value) (contents_of_lists makers) (contents_of_lists (set makers m left)))
makes_in makers maker m value list left reads (Err e) h = tt
makes_in {R} makers maker m value list left reads (Ok name) h =
    let changes = list_lengthened makers maker m value name list left reads.maker_is reads.within reads.list_is h in
    grind (arith, cond-true, lt-ltb)

-- the new segment's number is its maker's old count
pub named_in : {R : ℕ} (makers : List (ListOf (Segment R))) (maker m value : ℕ) (list left : ListOf (Segment R)) → ReadsList makers maker m list
    → (r : Result SegName Refusal) → IfOk r (λ name. MakesNext maker value name list left)
    → IfOk r (λ name. name ≡ record { maker = maker; n = segment_count makers maker })
named_in makers maker m value list left reads r h = grind (arith, list_found)

-- a making is refused for the maker as it is refused for the list that was read
pub refuses_making : {R : ℕ} (makers : List (ListOf (Segment R))) (maker m : ℕ) (list : ListOf (Segment R)) → ReadsList makers maker m list
    → (r : Result SegName Refusal) → IfErr r (λ e. RefusesMaking (length list.items) (vec_capacity list - vec_len list) e)
    → IfErr r (λ e. RefusesMaking (segment_count makers maker) (room_of_maker makers maker) e)
refuses_making makers maker m list reads r h = grind (arith, list_found)

-- a making that is refused changes no place
pub making_same : {R : ℕ} (makers : List (ListOf (Segment R))) (maker m : ℕ) (list left : ListOf (Segment R)) → ReadsList makers maker m list
    → (r : Result SegName Refusal) → OnErr r (left.items ≡ list.items) → OnErr r (contents_of_lists (set makers m left) ≡ contents_of_lists makers)
making_same makers maker m list left reads r same = grind (arith, segments_same, list_same)

-- removing the last element of a maker's list removes all places of the maker's last segment
pub unmakes_in : {R : ℕ} (makers : List (ListOf (Segment R))) (maker m : ℕ) (list left : ListOf (Segment R)) → ReadsList makers maker m list
    → left.items ≡ take (length list.items - 1) list.items
    → Restores everywhere (place.Whole (record { maker = maker; n = segment_count makers maker - 1 })) None (contents_of_lists makers) (contents_of_lists (set makers m left))
unmakes_in makers maker m list left reads items q own =
    let changes = last_taken makers maker m list left reads.maker_is reads.within reads.list_is items in grind (arith, contents_of_lists-changed)
