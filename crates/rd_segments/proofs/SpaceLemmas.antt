-- The space's map after a change of its segments, of one of the queue's ends, or of the array.
use Rattle.rd_segments.proofs.Prelude.{◌≡◌, ℕ, true, false, Bool, if◌then◌else◌, ap, List, Some, None, Result, Ok, Err, IfOk, arith, fun_ext, SegName, Place, Content, Operation, Done, Refusal, root, name_eq, is_of_segment, place_eq, segment_of, Contents, fresh_segment, operand, operate, everywhere, Operates, Agrees, lift_operates, lift_restore, Segment, ListOf, by_name, some_contents, contents_of_lists, AreFreshLists, ArrayParts, array_contents, fresh_array, contents_of_fields, fresh_space, is_of_array, restore, narrow_effect, contents_with}
use Rattle.rd_cell.specs.declared.places.Place.TheVariants as place

-- Which places are the segments'

-- whether a place is one of some segment's
abbrev of_segments : Place → Bool
of_segments place.QHead = false
of_segments place.QTail = false
of_segments place.ArrHead = false
of_segments place.ArrTail = false
of_segments (place.ArrCell i) = false
of_segments _ = true

-- a place that belongs to a segment is one of the segments'
own_of : (p : Place) (name : SegName) → segment_of p ≡ Some name → of_segments p ≡ true
own_of p name h = grind arith

-- a change of the segments' map agrees with the change of the space's map
segments_agree : (old new : Contents) (qhead qtail : SegName) (array : Contents) (p : Place) → of_segments p ≡ true
    → Agrees of_segments p old new (contents_with old qhead qtail array) (contents_with new qhead qtail array)
segments_agree old new qhead qtail array p own = grind arith

-- An operation on a segment, or a content put back there

-- an operation done on the segments is done on the space
pub space_operates : {R : ℕ} (old new : List (ListOf (Segment R))) (qhead qtail : SegName) (array : ArrayParts) (name : SegName) (p : Place) (op : Operation) → segment_of p ≡ Some name
    → (r : Result Done Refusal) → IfOk r (λ done. Operates everywhere p op done (contents_of_lists old) (contents_of_lists new))
    → IfOk r (λ done. Operates everywhere p op done (contents_of_fields old qhead qtail array) (contents_of_fields new qhead qtail array))
space_operates old new qhead qtail array name p op own (Err e) h = tt
space_operates old new qhead qtail array name p op own (Ok done) h =
    lift_operates of_segments p op done (contents_of_lists old) (contents_of_lists new) (contents_of_fields old qhead qtail array) (contents_of_fields new qhead qtail array)
    (segments_agree (contents_of_lists old) (contents_of_lists new) qhead qtail (array_contents array) p (own_of p name own))
    (narrow_effect of_segments (operate p op (operand (contents_of_lists old) p)) done (contents_of_lists old) (contents_of_lists new) h)

-- if the segments' places stay, so do the space's
pub same_fields : {R : ℕ} (old new : List (ListOf (Segment R))) (qhead qtail : SegName) (array : ArrayParts) → contents_of_lists new ≡ contents_of_lists old
    → contents_of_fields new qhead qtail array ≡ contents_of_fields old qhead qtail array
same_fields old new qhead qtail array h = ap (λ (at : Contents). contents_with at qhead qtail (array_contents array)) h

-- An operation on one of the queue's ends

-- another name at the queue's head changes no other place
pub head_others : {R : ℕ} (makers : List (ListOf (Segment R))) (old new qtail : SegName) (array : ArrayParts) (q : Place) → place_eq place.QHead q ≡ false
    → contents_of_fields makers new qtail array q ≡ contents_of_fields makers old qtail array q
head_others makers old new qtail array q h = grind arith

-- another name at the queue's tail changes no other place
pub tail_others : {R : ℕ} (makers : List (ListOf (Segment R))) (qhead old new : SegName) (array : ArrayParts) (q : Place) → place_eq place.QTail q ≡ false
    → contents_of_fields makers qhead new array q ≡ contents_of_fields makers qhead old array q
tail_others makers qhead old new array q h = grind arith

-- An operation on the array, or a content put back there

-- a change of the array agrees with the change of the space
array_agrees : {R : ℕ} (makers : List (ListOf (Segment R))) (qhead qtail : SegName) (old new : ArrayParts) (p : Place) → is_of_array p ≡ true
    → Agrees is_of_array p (array_contents old) (array_contents new) (contents_of_fields makers qhead qtail old) (contents_of_fields makers qhead qtail new)
array_agrees makers qhead qtail old new p own = grind arith

-- an operation done on the array is done on the space
pub array_operates : {R : ℕ} (makers : List (ListOf (Segment R))) (qhead qtail : SegName) (old new : ArrayParts) (p : Place) (op : Operation) → is_of_array p ≡ true
    → (r : Result Done Refusal) → IfOk r (λ done. Operates everywhere p op done (array_contents old) (array_contents new))
    → IfOk r (λ done. Operates everywhere p op done (contents_of_fields makers qhead qtail old) (contents_of_fields makers qhead qtail new))
array_operates makers qhead qtail old new p op own r h =
    let agrees = array_agrees makers qhead qtail old new p own in grind (arith, lift_operates, narrow_effect)

-- a content put back in the array is put back in the space
pub array_restored : {R : ℕ} (makers : List (ListOf (Segment R))) (qhead qtail : SegName) (old new : ArrayParts) (p : Place) (c : Content) → is_of_array p ≡ true
    → array_contents new ≡ restore (Some p) (Some c) (array_contents old)
    → contents_of_fields makers qhead qtail new ≡ restore (Some p) (Some c) (contents_of_fields makers qhead qtail old)
array_restored makers qhead qtail old new p c own same =
    fun_ext (lift_restore is_of_array p (Some c) (array_contents old) (array_contents new) (contents_of_fields makers qhead qtail old) (contents_of_fields makers qhead qtail new)
    (array_agrees makers qhead qtail old new p own) (λ q _. ap (λ (at : Contents). at q) same))

-- A fresh space

-- the places under a name in fresh lists are the root's, with fresh contents, or none
fresh_contents : {R : ℕ} (makers : List (ListOf (Segment R))) (t : SegName) (q : Place) → AreFreshLists makers → is_of_segment root q ≡ name_eq root t
    → some_contents (by_name makers t) q ≡ (if is_of_segment root q then fresh_segment R q else None)
fresh_contents {R} makers t q h of = grind arith

-- fresh lists and a fresh array, with the root at the queue's ends, are a fresh space
pub space_fresh : {R : ℕ} (makers : List (ListOf (Segment R))) (array : ArrayParts) → AreFreshLists makers → array_contents array ≡ fresh_array
    → contents_of_fields makers root root array ≡ fresh_space R
space_fresh {R} makers array h k = λ i. contents_with (fun_ext each i) root root (k i)
  where
    each : (q : Place) → contents_of_lists makers q ≡ (if is_of_segment root q then fresh_segment R q else None)
    each q = grind (arith, fresh_contents)
