-- A text is at most one trace.
use Rattle.rd_trace.proofs.Prelude.{◌≡◌, ℕ, suc, ◌+◌, ◌≤◌, Bool, not, ◌&&◌, ◌==◌, nat_le, if◌then◌else◌, List, [], ◌∷◌, map, length, slice_get, codes, Option, Some, None, is_some, option_map, Vec, Global, inl, inr, refl, sym, ap, ◌∙◌, subst, arith, length-map, slice_get-map, list_all, Data, get, as_array, read, SegName, ArrSlot, Actor, SLOTS, SegmentParts, ArrayParts, World, MOST_ACTORS, Event, fresh_world, numbered, world_of_parts, first_flaw, indexes_fit, array_fits, Parts, Flaw, bytes_of, Mark, member_count, items_at, Gives, SpellEachAt, elements, event_of, SpellsActor, slot_of, filled_slots, SpellsArray, cell_of, SpellsSegment, SpellsSegmentList, SpellsMark, SpellsParts, SpellsStart, start_world, start_flaw, Start, Trace, IsVersion1, IsVersion2, IsEitherVersion, IsTraceText, loaded_state, name_bytes_and_events, IsSameBook, list_all-map, COUNTER_END, MOST_SEGMENTS, MOST_CELLS, counters_fit, array_contents, element_in, by_name, count_in, segment_count, contents_of_segments, some_parts_contents, contents_with, words_fit, next_fits, names_fit, numbers_within}
use Rattle.std.proofs.Props.{props}
use mathlib.Core.HLevel.{is_prop→PathP}
use Rattle.rd_step.specs.declared.flaws.Flaw.TheVariants.{Makers, PlaceNames, ActorNames, Counters, Indexes, ArrayCounters, ActorNumbers, ActorWords}
use Rattle.rd_trace.proofs.ArrayLemmas.{Rises, filled_rises}
use Rattle.rd_trace.proofs.LoadLemmas.{ring_of}
use Rattle.rd_trace.proofs.SpellLemmas.{one_given, same_each_at, same_seen_at}
use Rattle.rd_trace.specs.declared.starts.Start.TheVariants as start

pub some_same : {A : Type 0} (o : Option A) (a b : A) → o ≡ Some a → o ≡ Some b → a ≡ b
some_same o a b h k = let both : Some a ≡ Some b = sym h ∙ k in cc

-- ---- actors

same_actor : (d : Data) (a b : Actor) → SpellsActor d a → SpellsActor d b → a ≡ b
same_actor d a b h k = grind arith

-- ---- the array

-- no filled slot is before the position of the first slot
none_before : (i : ℕ) (slots : List ArrSlot) (s : ArrSlot) (rest : List (ℕ × ArrSlot)) → filled_slots (suc i) slots ≡ (i, s) ∷ rest → ⊥
none_before i slots s rest h = omega (arith, (subst (Rises (suc i) (suc i + length slots)) h (filled_rises (suc i) (suc i + length slots) slots (omega arith))).0)

same_slots : (i : ℕ) (xs ys : List ArrSlot) → length xs ≡ length ys → filled_slots i xs ≡ filled_slots i ys → xs ≡ ys
same_slots i [] [] n h = refl
same_slots i (a ∷ xs) (b ∷ ys) n h = let fewer : length xs ≡ length ys = omega arith in grind (arith, none_before, same_slots (suc i) xs ys fewer)
same_slots i _ _ n h = absurd (omega arith)

same_array : (d : Data) (a b : ArrayParts) → SpellsArray d a → SpellsArray d b → a ≡ b
same_array d a b h k =
    let filled = same_each_at (Gives slot_of) (one_given slot_of) _ (filled_slots 0 a.cells) (filled_slots 0 b.cells) h.cells k.cells in
    let cells = same_slots 0 a.cells b.cells (a.sized ∙ sym b.sized) filled in
    λ i. record {
      head = some_same _ a.head b.head h.head k.head i;
      tail = some_same _ a.tail b.tail h.tail k.tail i;
      cells = cells i;
      sized = is_prop→PathP (λ j. length (cells j) ≡ SLOTS) (λ j. hlevel props) a.sized b.sized i;
    }

-- ---- segments

same_segment : (R : ℕ) (d : Data) (s r : SegmentParts R) → SpellsSegment d s → SpellsSegment d r → s ≡ r
same_segment R d s r h k =
    let cells = same_each_at (Gives cell_of) (one_given cell_of) _ s.cells r.cells h.cells k.cells in
    λ i. record {
      head = some_same _ s.head r.head h.head k.head i;
      tail = some_same _ s.tail r.tail h.tail k.tail i;
      closed = some_same _ s.closed r.closed h.closed k.closed i;
      next = some_same _ s.next r.next h.next k.next i;
      cells = cells i;
      small = is_prop→PathP (λ j. R ≤ MOST_CELLS) (λ j. hlevel props) s.small r.small i;
      sized = is_prop→PathP (λ j. length (cells j) ≡ R) (λ j. hlevel props) s.sized r.sized i;
    }

same_segments : (R : ℕ) (d : Data) (v w : Vec (SegmentParts R) Global) → SpellsSegmentList d v → SpellsSegmentList d w → v.items ≡ w.items
same_segments R d v w h k = same_each_at SpellsSegment (same_segment R) (as_array d) v.items w.items h k

-- ---- what is seen of the makers' lists: their elements

same_list : {X : Type 0} (o p : Option (Vec X Global)) (n : ℕ) → option_map elements o ≡ option_map elements p → (element_in o n ≡ element_in p n) × (count_in o ≡ count_in p)
same_list o p n h = grind arith

module _ {X : Type 0} (vs ws : List (Vec X Global)) (same : map elements vs ≡ map elements ws) where
  same_length : length vs ≡ length ws
  same_length = sym (length-map vs elements) ∙ ap length same ∙ length-map ws elements

  same_all : (test : List X → Bool) → list_all (λ v. test v.items) vs ≡ list_all (λ v. test v.items) ws
  same_all test = sym (list_all-map test elements vs) ∙ ap (list_all test) same ∙ list_all-map test elements ws

  same_at : (m : ℕ) → option_map elements (slice_get vs m) ≡ option_map elements (slice_get ws m)
  same_at m = sym (slice_get-map elements vs m) ∙ ap (λ l. slice_get l m) same ∙ slice_get-map elements ws m

  same_by_name : (s : SegName) → by_name vs s ≡ by_name ws s
  same_by_name s = (same_list _ _ s.n (same_at s.maker)).0

-- ---- starts

-- the first flaw of parts, from what `first_flaw` sees of them
abbrev flaw_by : (R : ℕ) → List Actor → ℕ → ℕ → Bool → (SegName → Bool) → ((SegmentParts R → Bool) → Bool) → SegName → SegName → ArrayParts → Option Flaw
flaw_by R actors makers roots few there each qhead qtail array =
    if not (nat_le 1 (length actors) && nat_le (length actors) MOST_ACTORS && (makers == suc (length actors)) && (roots == 1) && few) then Some Makers
    else if not (there qhead && there qtail && each (λ s. next_fits there s.next)) then Some PlaceNames
    else if not (list_all (names_fit there) actors) then Some ActorNames
    else if not (each counters_fit) then Some Counters
    else if not (each (indexes_fit (COUNTER_END + R))) then Some Indexes
    else if not (array_fits array) then Some ArrayCounters
    else if not (list_all (numbers_within (COUNTER_END + R)) actors) then Some ActorNumbers
    else if not (list_all words_fit actors) then Some ActorWords
    else None

same_parts : (R : ℕ) (d : Data) (p q : Parts R) → SpellsParts d p → SpellsParts d q → (first_flaw p ≡ first_flaw q) × (world_of_parts p ≡ world_of_parts q)
same_parts R d p q h k =
    let actors = same_each_at SpellsActor same_actor _ p.actors.items q.actors.items h.actors k.actors in
    let makers = same_seen_at SpellsSegmentList elements (same_segments R) _ p.segments.items q.segments.items h.segments k.segments in
    let names = same_by_name p.segments.items q.segments.items makers in
    let all = same_all p.segments.items q.segments.items makers in
    let long = same_length p.segments.items q.segments.items makers in
    let roots = (same_list _ _ 0 (same_at p.segments.items q.segments.items makers 0)).1 in
    let qhead = some_same _ p.qhead q.qhead h.qhead k.qhead in
    let qtail = some_same _ p.qtail q.qtail h.qtail k.qtail in
    let one = some_same (get (codes "array") d) h.array.0 k.array.0 h.array.1 k.array.1 in
    let slots = same_array k.array.0 p.array q.array (subst (λ x. SpellsArray x p.array) one h.array.2) k.array.2 in (
      (λ i.
          flaw_by R (actors i) (long i) (roots i) (all (λ l. nat_le (length l) MOST_SEGMENTS) i) (λ s. is_some (names s i))
          (λ test. all (list_all test) i) (qhead i) (qtail i) (slots i)),
      (λ i. record { ring = R; at = contents_with (contents_of_segments (λ n. some_parts_contents (names n i))) (qhead i) (qtail i) (array_contents (slots i)); actor = numbered (actors i) }),
    )

one_start : (R : ℕ) (d : Data) (s r : Start R) → SpellsStart d s → SpellsStart d r → (start_flaw s ≡ start_flaw r) × (start_world s ≡ start_world r)
one_start R d (start.Fresh n) (start.Fresh m) h k = (refl, ap (fresh_world R) (some_same _ n m h.fresh.number k.fresh.number))
one_start R d (start.Parts p) (start.Parts q) h k = same_parts R d p q h k
one_start R d _ _ h k = absurd (omega (arith, some_same (member_count d) _ _ h.members k.members))

-- ---- bookmarks

same_events : (key : List ℕ) (d : Data) (es fs : List Event) → SpellEachAt (Gives event_of) key d es → SpellEachAt (Gives event_of) key d fs → es ≡ fs
same_events key d es fs h k = same_each_at (Gives event_of) (one_given event_of) (items_at key d) es fs h k

same_mark : (d : Data) (m n : Mark) → SpellsMark d m → SpellsMark d n → name_bytes_and_events m ≡ name_bytes_and_events n
same_mark d m n h k = λ i. (some_same _ (bytes_of m.name) (bytes_of n.name) h.name k.name i, same_events (codes "events") d m.events n.events h.events k.events i)

-- ---- traces

-- what is seen of a trace: all but how its start and its names lie in memory
pub record Seen : Type 0 where
  pub flaw : Option Flaw
  pub world : World
  pub marks : List (List ℕ × List Event)
  pub live : List Event
  pub undone : List Event

abbrev pub seen : {R : ℕ} → Trace R → Seen
seen t = record { flaw = start_flaw t.start; world = start_world t.start; marks = map name_bytes_and_events t.marks; live = t.live; undone = t.undone }

module _ (R : ℕ) (d : Data) (t u : Trace R) where
  same_version1 : IsVersion1 d t → IsVersion1 d u → seen t ≡ seen u
  same_version1 h k =
      let segment_count = some_same _ h.actors.0 k.actors.0 h.actors.1.number k.actors.1.number in
      let begun = h.actors.2 ∙ ap start.Fresh segment_count ∙ sym k.actors.2 in
      let live = same_events (codes "events") d t.live u.live h.live k.live in
      λ i. seen {R = R} (record { start = begun i; marks = (h.marks ∙ sym k.marks) i; live = live i; undone = (h.undone ∙ sym k.undone) i })

  same_version2 : IsVersion2 d t → IsVersion2 d u → seen t ≡ seen u
  same_version2 h k =
      let at = some_same (get (codes "start") d) h.start.0 k.start.0 h.start.1 k.start.1 in
      let start = one_start R k.start.0 t.start u.start (subst (λ x. SpellsStart x t.start) at h.start.2) k.start.2 in
      let marks = same_seen_at SpellsMark name_bytes_and_events same_mark (items_at (codes "marks") d) t.marks u.marks (h.marks.0, h.marks.1, h.marks.2.each) (k.marks.0, k.marks.1, k.marks.2.each) in
      let live = same_events (codes "events") d t.live u.live h.live k.live in
      let undone = same_events (codes "undone") d t.undone u.undone h.undone k.undone in
      λ i. record { flaw = start.0 i; world = start.1 i; marks = marks i; live = live i; undone = undone i }

  same_either : IsEitherVersion d t → IsEitherVersion d u → seen t ≡ seen u
  same_either (inl h) (inl k) = same_version1 h k
  same_either (inl h) (inr k) = absurd (omega (arith, some_same _ 4 6 h.members k.members))
  same_either (inr h) (inl k) = absurd (omega (arith, some_same _ 6 4 h.members k.members))
  same_either (inr h) (inr k) = same_version2 h k

-- any two traces that a text is have rings of one size, and are seen as the same
pub same_trace : (text : List ℕ) (R Q : ℕ) (t : Trace R) (u : Trace Q) → IsTraceText text t → IsTraceText text u → (R ≡ Q) × (seen t ≡ seen u)
same_trace text R Q t u h k =
    let d = k.1 in
    let read_as : IsEitherVersion d t = subst (λ x. IsEitherVersion x t) (some_same (read text) h.1 d h.2 k.2) h.3.1 in
    let ring = some_same _ R Q (ring_of d t read_as) (ring_of d u k.3.1) in
    (ring, subst (λ P. (v : Trace P) → IsEitherVersion d v → seen t ≡ seen v) ring (λ v is. same_either R d t v read_as is) u k.3.1)

pub same_book : (R Q : ℕ) (t : Trace R) (u : Trace Q) → seen t ≡ seen u → IsSameBook (loaded_state t) (loaded_state u)
same_book R Q t u same = record { session = λ i. record { start = (same i).world; live = (same i).live; undone = (same i).undone }; marks = λ i. (same i).marks }

pub one_trace : (text : List ℕ) (R Q : ℕ) (t : Trace R) (u : Trace Q) → IsTraceText text t → IsTraceText text u
    → (R ≡ Q) × (start_flaw t.start ≡ start_flaw u.start) × IsSameBook (loaded_state t) (loaded_state u)
one_trace text R Q t u h k = let p = same_trace text R Q t u h k in (p.0, (λ i. (p.1 i).flaw), same_book R Q t u p.1)
