-- The makers' lists of segments, as one map from the segments' places to contents. List m, counted
-- from 0, belongs to maker m.
use Rattle.std.specs.Option.{option_map_or}
use Rattle.std.specs.Prelude.{◌≡◌, ℕ, ◌<◌, ◌++◌, ◌∷◌, [], List, Vec, Option, Some, None, slice_get, if◌then◌else◌, length, option_and_then}
use Rattle.std.specs.declared.alloc.Global.{Global}
use Rattle.rd_ring.specs.Prelude.{MOST_SEGMENTS, SegName, Place, Content, Contents, root, name_eq, named_segment, fresh_segment, segment_holding}
use Rattle.rd_ring.specs.declared.segments.Segment.{Segment}
use Rattle.rd_ring.specs.Segments.{segment_contents}

-- the type of one maker's list: for each of its segments an X, which is the segment itself or its
-- parts, in the order of their making
abbrev pub ListOf : Type 0 → Type 0
ListOf X = Vec X Global

-- element n, counted from 0, of a maker's list; none if there is no such list or element
abbrev pub element_in : {X : Type 0} → Option (ListOf X) → ℕ → Option X
element_in o n = option_and_then (λ list. slice_get list.items n) o

-- the element of this name in the makers' lists; none if there is none
abbrev pub by_name : {X : Type 0} → List (ListOf X) → SegName → Option X
by_name makers s = element_in (slice_get makers s.maker) s.n

-- the content at a place of a segment; none without a segment, or if it has no such place
abbrev pub some_contents : {R : ℕ} → Option (Segment R) → Place → Option Content
some_contents o p = option_and_then (λ s. segment_contents s p) o

-- the contents of the places of all segments, if `segment` gives each name the contents of its
-- segment; none at a place of no segment
abbrev pub contents_of_segments : (SegName → Contents) → Contents
contents_of_segments segment p = option_and_then (λ s. segment s p) (named_segment p)

-- the contents of the places of all segments in these lists; none at every other place
abbrev pub contents_of_lists : {R : ℕ} → List (ListOf (Segment R)) → Contents
contents_of_lists makers = contents_of_segments (λ n. some_contents (by_name makers n))

-- the number of segments in a list; 0 without a list
abbrev pub count_in : {X : Type 0} → Option (ListOf X) → ℕ
count_in o = option_map_or (λ list. length list.items) o 0

-- the number of segments in this maker's list; 0 if the maker has no list
abbrev pub segment_count : {X : Type 0} → List (ListOf X) → ℕ → ℕ
segment_count makers m = count_in (slice_get makers m)

-- the new lists have `o`, a segment or none, under this name, and under every other name what the
-- old lists had
pub record SetsSegmentOnly {R : ℕ} (name : SegName) (o : Option (Segment R)) (old new : List (ListOf (Segment R))) : Type 0 where
  pub at : (t : SegName) → by_name new t ≡ (if name_eq name t then o else by_name old t)

-- a maker's list got one more segment at its end, a new one that holds the value. `name` is its
-- name: the maker, and as its number the list's old length, which is below the most that a maker
-- may make
pub record MakesNext {R : ℕ} (maker value : ℕ) (name : SegName) (old new : ListOf (Segment R)) : Type 0 where
  pub name_is : name ≡ record { maker = maker; n = length old.items }
  pub below : length old.items < MOST_SEGMENTS
  pub segment : Segment R
  pub holds : (q : Place) → segment_contents segment q ≡ segment_holding R value q
  pub pushed : new.items ≡ old.items ++ segment ∷ []

-- the lists of a fresh space: the root is the only segment, and it is fresh
pub record AreFreshLists {R : ℕ} (makers : List (ListOf (Segment R))) : Type 0 where
  pub segment : Segment R
  pub fresh_contents : (q : Place) → segment_contents segment q ≡ fresh_segment R q
  pub at : (t : SegName) → by_name makers t ≡ (if name_eq root t then Some segment else None)

-- the list has just one segment, and it is fresh
pub record IsOneFreshSegment {R : ℕ} (list : List (Segment R)) : Type 0 where
  pub segment : Segment R
  pub fresh_contents : (q : Place) → segment_contents segment q ≡ fresh_segment R q
  pub alone : list ≡ segment ∷ []
