-- Parts without a flaw are a well-formed world.
use Rattle.rd_step.proofs.Prelude.{is_some-slice_get, ◌≡◌, ℕ, suc, ◌<◌, ◌≤◌, Bool, true, false, not, ◌==◌, ◌&&◌, nat_lt, nat_le, if◌then◌else◌, refl, sym, ◌∙◌, ap, subst, arith, List, length, slice_get, Option, Some, None, is_some, option_map, lt-ltb, leb-true, eqb-true, eq-eqb, list_all, and_parts, and_from, both_ways, slice_get_past, fun_ext, MOST_ACTORS, SLOTS, MOST_SEGMENTS, Cell, SegName, Place, ArrSlot, is_there, SegmentParts, counters_fit, element_in, by_name, count_in, segment_count, Space, contents, ListOf, some_parts_contents, contents_of_parts, each_segment, slice_get-is_some, numbered_there, Actor, words_fit, Parts, Flaw, world_of_fields, numbered, Presence, belongs, place_fits, next_fits, names_fit, numbers_within, actor_fits, is_actor, IsNumbered, AreMade, IsWellFormed, world_of_parts, has_segment, indexes_fit, first_flaw, index_end, parts_contents, numbered_absent, slice_get_cases}
use Rattle.std.proofs.lemmas.List.Sums.{AllPass-from_list_all}
use Rattle.std.proofs.lemmas.Option.{get_or_from_slice_get, slice_get_within}
use Rattle.rd_cell.specs.declared.places.Place.TheVariants as place
use Rattle.rd_cell.specs.declared.contents.Content.TheVariants as content

-- No flaw

-- the conditions of parts without a flaw, each by itself
pub record NoFlaw {R : ℕ} (p : Parts R) : Type 0 where
  pub some_actors : nat_le 1 (length p.actors.items) ≡ true
  pub few_actors : nat_le (length p.actors.items) MOST_ACTORS ≡ true
  pub lists : (length p.segments.items == suc (length p.actors.items)) ≡ true
  pub one_root : (segment_count p.segments.items 0 == 1) ≡ true
  pub few_segments : list_all (λ list. nat_le (length list.items) MOST_SEGMENTS) p.segments.items ≡ true
  pub qhead : has_segment p p.qhead ≡ true
  pub qtail : has_segment p p.qtail ≡ true
  pub nexts : each_segment (λ s. next_fits (has_segment p) s.next) p.segments.items ≡ true
  pub names : list_all (names_fit (has_segment p)) p.actors.items ≡ true
  pub counters : each_segment counters_fit p.segments.items ≡ true
  pub indexes : each_segment (indexes_fit (index_end R)) p.segments.items ≡ true
  pub array_head : nat_le p.array.head SLOTS ≡ true
  pub array_tail : nat_le p.array.tail SLOTS ≡ true
  pub numbers : list_all (numbers_within (index_end R)) p.actors.items ≡ true
  pub words : list_all words_fit p.actors.items ≡ true

-- if a chain of tests names no flaw, its first test passes, and the rest of it names none
not_first : (b : Bool) (f : Flaw) (rest : Option Flaw) → (if not b then Some f else rest) ≡ None → (b ≡ true) × (rest ≡ None)
not_first b f rest h = grind arith

-- parts without a flaw meet each condition
no_flaw : {R : ℕ} (p : Parts R) → first_flaw p ≡ None → NoFlaw p
no_flaw {R} p h = grind (arith, not_first, nat_le, and_parts)

-- A test that holds of each element holds at each index

-- a test that holds of all elements of a list holds at each index
all_at : {X : Type 0} (test : X → Bool) (xs : List X) (i : ℕ) (x : X) → list_all test xs ≡ true → slice_get xs i ≡ Some x → test x ≡ true
all_at test xs i x h k = grind (arith, AllPass-from_list_all test xs h i x, slice_get_within, get_or_from_slice_get)

each_in : {R : ℕ} (test : SegmentParts R → Bool) (makers : List (ListOf (SegmentParts R))) (m n : ℕ) (o : Option (ListOf (SegmentParts R))) (s : SegmentParts R)
    → each_segment test makers ≡ true → slice_get makers m ≡ o → element_in o n ≡ Some s → test s ≡ true
each_in test makers m n o s h k there = grind (arith, all_at)

-- a test that holds of each segment holds of the one under a name
each_at : {R : ℕ} (test : SegmentParts R → Bool) (makers : List (ListOf (SegmentParts R))) (t : SegName) (s : SegmentParts R) → each_segment test makers ≡ true
    → by_name makers t ≡ Some s → test s ≡ true
each_at test makers t s h there = each_in test makers t.maker t.n (slice_get makers t.maker) s h refl there

-- Which actors and which segments are there

actors_numbered : (xs : List Actor) → 1 ≤ length xs → length xs ≤ MOST_ACTORS → IsNumbered (is_actor (numbered xs))
actors_numbered xs some few = grind (arith, slice_get-is_some, is_some-slice_get)

-- a place that every segment has is there exactly if the segment is
there_if : {R : ℕ} (o : Option (SegmentParts R)) (q : Place) → ((x : SegmentParts R) → is_some (parts_contents x q) ≡ true) → is_some (some_parts_contents o q) ≡ is_some o
there_if o q each = grind arith

-- the parts' world has exactly the segments of the parts
pub presence : {R : ℕ} (p : Parts R) → is_there (world_of_parts p).at ≡ has_segment p
presence p = fun_ext (λ s. there_if (by_name p.segments.items s) (place.Head s) (λ x. refl))

-- the number of a segment that is there is below the length of its list
pub numbered_below : {R : ℕ} (o : Option (ListOf (SegmentParts R))) (n : ℕ) → is_some (element_in o n) ≡ true → n < count_in o
numbered_below o n h = grind (arith, both_ways, is_some, numbered_absent)

few_in : {R : ℕ} (makers : List (ListOf (SegmentParts R))) (m : ℕ) (o : Option (ListOf (SegmentParts R))) → list_all (λ list. nat_le (length list.items) MOST_SEGMENTS) makers ≡ true
    → slice_get makers m ≡ o → count_in o ≤ MOST_SEGMENTS
few_in makers m o h k = grind (arith, leb-true, all_at, nat_le)

has_list : {R : ℕ} (makers : List (ListOf (SegmentParts R))) (m n : ℕ) → is_some (element_in (slice_get makers m) n) ≡ true → m < length makers
has_list makers m n h = grind (arith, is_some, slice_get_past)

-- parts without a flaw have the root, and each maker's segments are numbered without a gap
segments_made : {R : ℕ} (p : Parts R) → NoFlaw p → AreMade (is_actor (numbered p.actors.items)) (has_segment p)
segments_made p f = grind (arith, numbered_there, slice_get, eqb-true, numbered_below, is_some, eq-eqb, has_list, few_in, and_from, nat_lt, slice_get-is_some, lt-ltb)

-- Which places are there

some_in : {X Y : Type 0} (f : X → Y) (xs : List X) (i n : ℕ) → length xs ≡ n → is_some (option_map f (slice_get xs i)) ≡ nat_lt i n
some_in f xs i n len = grind (arith, slice_get_cases)

value_there : (R : ℕ) (o : Option (SegmentParts R)) (s : SegName) (i : ℕ) → is_some (some_parts_contents o (place.Val s i)) ≡ (nat_lt i R && is_some o)
value_there R o s i = grind (arith, nat_lt, some_in)

index_there : (R : ℕ) (o : Option (SegmentParts R)) (s : SegName) (i : ℕ) → is_some (some_parts_contents o (place.Idx s i)) ≡ (nat_lt i R && is_some o)
index_there R o s i = grind (arith, nat_lt, some_in)

no_place : {R : ℕ} (o : Option (SegmentParts R)) (q : Place) → ((x : SegmentParts R) → parts_contents x q ≡ None) → is_some (some_parts_contents o q) ≡ false
no_place o q none = grind arith

-- the parts' world has exactly the places that belong to it
places_belong : {R : ℕ} (p : Parts R) (q : Place) → is_some ((world_of_parts p).at q) ≡ belongs R (has_segment p) q
places_belong p q = grind (arith, there_if, value_there, index_there, no_place, some_in)

-- What is there fits

index_fits : (R : ℕ) (there : Presence) (s : SegName) (i : ℕ) (cells : List Cell) (o : Option Cell) → list_all (λ c. nat_le c.idx (index_end R)) cells ≡ true
    → slice_get cells i ≡ o → place_fits R there (place.Idx s i) (option_map (λ c. content.Idx c.safe c.idx) o) ≡ true
index_fits R there s i cells o h e = grind (arith, all_at, nat_le)

segment_fits : (R : ℕ) (p : Parts R) (s : SegName) (q : Place) (o : Option (SegmentParts R)) → NoFlaw p → by_name p.segments.items s ≡ o
    → place_fits R (has_segment p) q (some_parts_contents o q) ≡ true
segment_fits R p s q None f e = refl
segment_fits R p s (place.Idx t i) (Some x) f e =
    index_fits R (has_segment p) t i x.cells (slice_get x.cells i) (each_at (indexes_fit (index_end R)) p.segments.items s x f.indexes e) refl
segment_fits R p s q (Some x) f e = grind (arith, and_parts, nat_le, each_at)

slot_fits : (R : ℕ) (there : Presence) (i : ℕ) (o : Option ArrSlot) → place_fits R there (place.ArrCell i) (option_map content.Slot o) ≡ true
slot_fits R there i o = grind arith

-- in the world of parts without a flaw, each content fits its place
contents_fit : (R : ℕ) (p : Parts R) → NoFlaw p → (q : Place) → place_fits R (has_segment p) q ((world_of_parts p).at q) ≡ true
contents_fit R p f q = grind (arith, segment_fits, slot_fits, slice_get)

one_fits : (R : ℕ) (p : Parts R) (n : ℕ) (o : Option Actor) → NoFlaw p → slice_get p.actors.items n ≡ o → actor_fits R (has_segment p) o ≡ true
one_fits R p n None f e = refl
one_fits R p n (Some a) f e =
    and_from (names_fit (has_segment p) a && numbers_within (index_end R) a) (words_fit a)
    (and_from (names_fit (has_segment p) a) (numbers_within (index_end R) a) (all_at (names_fit (has_segment p)) p.actors.items n a f.names e) (all_at (numbers_within (index_end R)) p.actors.items n a f.numbers e))
    (all_at words_fit p.actors.items n a f.words e)

-- in the world of parts without a flaw, each actor's record fits
actors_fit : (R : ℕ) (p : Parts R) → NoFlaw p → (n : ℕ) → actor_fits R (has_segment p) (numbered p.actors.items n) ≡ true
actors_fit R p f n = grind (arith, one_fits, slice_get)

-- the world of parts without a flaw is well-formed
pub assembled : (R : ℕ) (p : Parts R) → first_flaw p ≡ None → IsWellFormed (world_of_parts p)
assembled R p h =
    let f = no_flaw p h in
    let same : has_segment p ≡ is_there (world_of_parts p).at = sym (presence p) in
    record {
      numbered =
          actors_numbered p.actors.items (leb-true 1 (length p.actors.items) f.some_actors) (leb-true (length p.actors.items) MOST_ACTORS f.few_actors);
      made = subst (AreMade (is_actor (numbered p.actors.items))) same (segments_made p f);
      places = λ q. places_belong p q ∙ ap (λ (there : Presence). belongs R there q) same;
      contents = λ q. subst (λ (there : Presence). place_fits R there q ((world_of_parts p).at q) ≡ true) same (contents_fit R p f q);
      actors = λ n. subst (λ (there : Presence). actor_fits R there (numbered p.actors.items n) ≡ true) same (actors_fit R p f n);
    }

-- parts without a flaw have a list for each maker from 0 to the number of actors
pub lists_right : {R : ℕ} (p : Parts R) → first_flaw p ≡ None → length p.segments.items ≡ suc (length p.actors.items)
lists_right p h = eqb-true (length p.segments.items) (suc (length p.actors.items)) (no_flaw p h).lists

-- a space with the contents that the parts describe, with their actors, is their world
pub parts_make : {R : ℕ} (p : Parts R) (space : Space R) → contents space ≡ contents_of_parts p.segments.items p.qhead p.qtail p.array
    → world_of_fields space p.actors.items ≡ world_of_parts p
parts_make {R} p space same = λ i. record { ring = R; at = same i; actor = numbered p.actors.items }
