-- Parts with a list for each maker, whose world is well-formed, have no flaw.
use Rattle.rd_step.proofs.Prelude.{is_some-slice_get, ◌≡◌, ℕ, zero, suc, ◌≤◌, Bool, true, nat_lt, nat_le, ◌↔◌, inl, inr, refl, ◌∙◌, ap, subst, arith, List, [], ◌∷◌, length, slice_get, Option, Some, None, option_map, le-leb, ltb-true, eq-eqb, list_all, cases_lt, and_parts, and_from, MOST_ACTORS, MOST_SEGMENTS, COUNTER_END, SegName, Place, SegmentParts, counters_fit, element_in, by_name, count_in, segment_count, ListOf, some_parts_contents, each_segment, slice_get-is_some, numbered_there, Actor, words_fit, Parts, numbered, Presence, place_fits, next_fits, names_fit, numbers_within, record_fits, actor_fits, is_actor, IsNumbered, AreMade, IsWellFormed, world_of_parts, has_segment, indexes_fit, first_flaw, index_end, Content, can_hold, content_fits, segments_named_fit, index_within, subst₂}
use Rattle.rd_step.proofs.Assembled.{NoFlaw, presence, numbered_below, assembled, lists_right}
use Rattle.std.proofs.Common.{get_or}
use Rattle.std.proofs.lemmas.List.Sums.{list_all-from_AllPass}
use Rattle.std.proofs.lemmas.Option.{slice_get-get_or}
use Rattle.rd_cell.specs.declared.places.Place.TheVariants as place
use Rattle.rd_cell.specs.declared.contents.Content.TheVariants as content

-- Each condition holds: no flaw

unflawed : {R : ℕ} (p : Parts R) → NoFlaw p → first_flaw p ≡ None
unflawed {R} p f = grind arith

-- A test that holds at each index holds of each element

-- a test that holds at each index of a list holds of all its elements
all_from : {X : Type 0} (test : X → Bool) (xs : List X) → ((i : ℕ) (x : X) → slice_get xs i ≡ Some x → test x ≡ true) → list_all test xs ≡ true
all_from test xs h = list_all-from_AllPass test xs (λ i d below. h i (get_or xs i d) (slice_get-get_or xs i d below))

-- a test that holds of the segment under each name holds of each segment
each_from : {R : ℕ} (test : SegmentParts R → Bool) (makers : List (ListOf (SegmentParts R)))
    → ((s : SegName) (x : SegmentParts R) → by_name makers s ≡ Some x → test x ≡ true) → each_segment test makers ≡ true
each_from test makers h =
    all_from (λ list. list_all test list.items) makers
    (λ m list at. all_from test list.items (λ n x e. h (record { maker = m; n = n }) x (ap (λ o. element_in o n) at ∙ e)))

-- How many actors and segments there are

parts_few_actors : (xs : List Actor) → IsNumbered (is_actor (numbered xs)) → length xs ≤ MOST_ACTORS
parts_few_actors [] element_in = omega arith
parts_few_actors (x ∷ xs) element_in = element_in.to_most (suc (length xs)) (slice_get-is_some (x ∷ xs) (length xs) (omega arith))

-- maker 0's list has just the root
one_root : {R : ℕ} (p : Parts R) → AreMade (is_actor (numbered p.actors.items)) (has_segment p) → segment_count p.segments.items 0 ≡ 1
one_root p made =
    let some = numbered_below (slice_get p.segments.items 0) 0 made.rooted in
    let none = made.makers (record { maker = 0; n = 1 }) in
    grind (arith, numbered_there)

-- no maker's list has more than 65,535 segments
parts_few_made : {R : ℕ} (p : Parts R) → AreMade (is_actor (numbered p.actors.items)) (has_segment p) → (m : ℕ) → segment_count p.segments.items m ≤ MOST_SEGMENTS
parts_few_made p made zero = let e = one_root p made in omega arith
parts_few_made p made (suc m) =
    elim (cases_lt MOST_SEGMENTS (segment_count p.segments.items (suc m))) [
      | inl more ↦
          let there = numbered_there (slice_get p.segments.items (suc m)) MOST_SEGMENTS more in
          let fits = made.makers (record { maker = suc m; n = MOST_SEGMENTS }) there in
          let below = ltb-true MOST_SEGMENTS MOST_SEGMENTS (and_parts (is_actor (numbered p.actors.items) (suc m)) (nat_lt MOST_SEGMENTS MOST_SEGMENTS) fits).1 in
          absurd (omega arith)
      | inr few ↦ few
    ]

few_segments : {R : ℕ} (p : Parts R) → AreMade (is_actor (numbered p.actors.items)) (has_segment p) → (m : ℕ) (list : ListOf (SegmentParts R))
    → slice_get p.segments.items m ≡ Some list → nat_le (length list.items) MOST_SEGMENTS ≡ true
few_segments {R} p made m list e =
    le-leb (length list.items) MOST_SEGMENTS (subst (λ (o : Option (ListOf (SegmentParts R))). count_in o ≤ MOST_SEGMENTS) e (parts_few_made p made m))

-- What is there fits

parts_segments_made : {R : ℕ} (p : Parts R) → IsWellFormed (world_of_parts p) → AreMade (is_actor (numbered p.actors.items)) (has_segment p)
parts_segments_made p formed = subst (AreMade (is_actor (numbered p.actors.items))) (presence p) formed.made

-- a content that fits can be held at its place, names a segment that is there, and has no index
-- past the end
content_parts : (R : ℕ) (there : Presence) (q : Place) (c : Content) → content_fits R there q c ≡ true
    → (can_hold q c ≡ true) × (segments_named_fit there c ≡ true) × (index_within (index_end R) c ≡ true)
content_parts R there q c fits = grind (arith, and_parts)

-- so does every content of the parts' world
held : (R : ℕ) (p : Parts R) → IsWellFormed (world_of_parts p) → (q : Place) (c : Content) → (world_of_parts p).at q ≡ Some c
    → (can_hold q c ≡ true) × (segments_named_fit (has_segment p) c ≡ true) × (index_within (index_end R) c ≡ true)
held R p formed q c e =
    content_parts R (has_segment p) q c
    (subst₂ (λ (there : Presence) (o : Option Content). place_fits R there q o ≡ true) (presence p) e (formed.contents q))

counters_within : (R : ℕ) (p : Parts R) → IsWellFormed (world_of_parts p) → (s : SegName) (x : SegmentParts R) → by_name p.segments.items s ≡ Some x
    → counters_fit x ≡ true
counters_within R p formed s x e =
    and_from (nat_le x.head COUNTER_END) (nat_le x.tail COUNTER_END)
    (held R p formed (place.Head s) (content.Number x.head) (ap (λ o. some_parts_contents o (place.Head s)) e)).0
    (held R p formed (place.Tail s) (content.Tail x.closed x.tail) (ap (λ o. some_parts_contents o (place.Tail s)) e)).0

indexes_within : (R : ℕ) (p : Parts R) → IsWellFormed (world_of_parts p) → (s : SegName) (x : SegmentParts R) → by_name p.segments.items s ≡ Some x
    → indexes_fit (index_end R) x ≡ true
indexes_within R p formed s x e =
    all_from (λ c. nat_le c.idx (index_end R)) x.cells (λ i c at.
    (held R p formed (place.Idx s i) (content.Idx c.safe c.idx)
    (ap (λ o. some_parts_contents o (place.Idx s i)) e ∙ ap (option_map (λ x. content.Idx x.safe x.idx)) at)).2)

record_parts : (R : ℕ) (there : Presence) (a : Actor) → record_fits R there a ≡ true
    → (names_fit there a ≡ true) × (numbers_within (index_end R) a ≡ true) × (words_fit a ≡ true)
record_parts R there a fits = grind (arith, and_parts)

parts_record_fits : (R : ℕ) (p : Parts R) → IsWellFormed (world_of_parts p) → (n : ℕ) (a : Actor) → slice_get p.actors.items n ≡ Some a
    → (names_fit (has_segment p) a ≡ true) × (numbers_within (index_end R) a ≡ true) × (words_fit a ≡ true)
parts_record_fits R p formed n a e =
    record_parts R (has_segment p) a (subst₂ (λ (there : Presence) (o : Option Actor). actor_fits R there o ≡ true) (presence p) e (formed.actors (suc n)))

-- parts with a list for each maker, whose world is well-formed, have no flaw
pub accepted : (R : ℕ) (p : Parts R) → length p.segments.items ≡ suc (length p.actors.items) → IsWellFormed (world_of_parts p) → first_flaw p ≡ None
accepted R p lists formed =
    let made = parts_segments_made p formed in
    unflawed p (record {
      some_actors = le-leb 1 (length p.actors.items) (is_some-slice_get p.actors.items 0 formed.numbered.first);
      few_actors = le-leb (length p.actors.items) MOST_ACTORS (parts_few_actors p.actors.items formed.numbered);
      lists = eq-eqb (length p.segments.items) (suc (length p.actors.items)) lists;
      one_root = eq-eqb (segment_count p.segments.items 0) 1 (one_root p made);
      few_segments = all_from (λ list. nat_le (length list.items) MOST_SEGMENTS) p.segments.items (few_segments p made);
      qhead = (held R p formed place.QHead (content.Name p.qhead) refl).1;
      qtail = (held R p formed place.QTail (content.Name p.qtail) refl).1;
      nexts = each_from (λ s. next_fits (has_segment p) s.next) p.segments.items (λ s x e. (held R p formed (place.Next s) (content.Next x.next) (ap (λ o. some_parts_contents o (place.Next s)) e)).1);
      names = all_from (names_fit (has_segment p)) p.actors.items (λ n a e. (parts_record_fits R p formed n a e).0);
      counters = each_from counters_fit p.segments.items (counters_within R p formed);
      indexes = each_from (indexes_fit (index_end R)) p.segments.items (indexes_within R p formed);
      array_head = (held R p formed place.ArrHead (content.Number p.array.head) refl).0;
      array_tail = (held R p formed place.ArrTail (content.Number p.array.tail) refl).0;
      numbers = all_from (numbers_within (index_end R)) p.actors.items (λ n a e. (parts_record_fits R p formed n a e).1);
      words = all_from words_fit p.actors.items (λ n a e. (parts_record_fits R p formed n a e).2);
    })

-- parts have no flaw exactly if they have a list for each maker, and their world is well-formed
pub no_flaw_iff_well_formed : (R : ℕ) (p : Parts R) → (first_flaw p ≡ None) ↔ ((length p.segments.items ≡ suc (length p.actors.items)) × IsWellFormed (world_of_parts p))
no_flaw_iff_well_formed R p = (λ none. (lists_right p none, assembled R p none), λ both. accepted R p both.0 both.1)
