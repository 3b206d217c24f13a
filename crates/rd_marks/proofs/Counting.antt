-- The number of entries in the stretches is the number of different lists, except the empty one,
-- that begin the events of some bookmark.
use Rattle.rd_marks.proofs.Prelude.{◌≡◌, ℕ, zero, suc, ◌+◌, ◌-◌, ◌<◌, ◌≤◌, inl, inr, refl, sym, ap, ◌∙◌, subst, List, [], ◌∷◌, ◌++◌, length, take, map, sum_by, Contains, length-append, length-take, arith, range_with_len, take-length, cases_lt, cases_eq, nat_tests, get_or-map, length-map, length-take-le, take-map, take-take, sum_by-cons, Contains-append_left, Contains-append_right, Contains-append_cases, Event, Entry, Begins, MarkName, Stretch, Node, marks_of, named_entries, stretch_list, shared_at, entries_at, AreNested, AreFresh, node_len_in_stretch, greatest_len_in_stretch, AreNeeded, AgreesFor, IsDeepest, entry_count, events}
use Rattle.std.proofs.lemmas.List.FromFn.{length-map-range_with_len, get_or-map-range_with_len}
use Rattle.rd_marks.specs.Prefixes.{IsPrefixOfSomeMark, AreDistinct, CountsPrefixes, NeedsNoEntry}
use Rattle.rd_marks.proofs.MarkLemmas.{mark_of}
use Rattle.rd_marks.proofs.Starting.{begins_shorter, event_length, events_of_first}
use Rattle.rd_marks.proofs.StretchLists.{own_at, list_past, shared_past, shared_within, total, begins_shared}
use Rattle.rd_marks.proofs.Fresh.{along_less, along_within, not_both}

-- Elements of lists

contains_first : {X : Type 0} (x : X) (xs : List X) → Contains (x ∷ xs) x
contains_first x xs = (0, omega arith, refl)

contains_later : {X : Type 0} (x y : X) (xs : List X) → Contains xs y → Contains (x ∷ xs) y
contains_later x y xs c = Contains-append_right (x ∷ []) xs y c

pub contains_mapped : {X Y : Type 0} (f : X → Y) (xs : List X) (x : X) → Contains xs x → Contains (map f xs) (f x)
contains_mapped f xs x c = (c.0, omega (arith, c.1, length-map xs f), get_or-map f xs c.0 x (f x) c.1 ∙ ap f c.2)

mapped_contains : {X Y : Type 0} (f : X → Y) (xs : List X) (y : Y) → Contains (map f xs) y → (x : X) × Contains xs x × (f x ≡ y)
mapped_contains f [] y c = absurd (omega (arith, c.1))
mapped_contains f (x ∷ xs) y (zero, h, e) = (x, contains_first x xs, e)
mapped_contains f (x ∷ xs) y (suc k, h, e) = grind (arith, contains_later, mapped_contains f xs y (k, omega (arith, h), e))

distinct_joined : {X : Type 0} (xs ys : List X) → AreDistinct xs → AreDistinct ys → ((x : X) → Contains xs x → Contains ys x → ⊥) → AreDistinct (xs ++ ys)
distinct_joined [] ys h k apart = k
distinct_joined (x ∷ xs) ys h k apart = (
  λ c. elim (Contains-append_cases xs ys x c) [ inl first ↦ h.0 first | inr second ↦ apart x (contains_first x xs) second ],
  distinct_joined xs ys h.1 k (λ y first second. apart y (contains_later x y xs first) second),
)

-- the beginnings of a list with a, a + 1, .. events, n of them
abbrev levels : List Event → ℕ → ℕ → List (List Event)
levels fs a n = map (λ (m : ℕ). take m fs) (range_with_len a n)

level_of : (fs : List Event) (a n : ℕ) (es : List Event) → a + n ≤ suc (length fs) → Contains (levels fs a n) es → (a ≤ length es) × Begins es fs
level_of fs a n es h c = grind (arith, length-map-range_with_len, get_or-map-range_with_len, length-take-le)

of_level : (fs : List Event) (a n : ℕ) (es : List Event) → a ≤ length es → length es < a + n → Begins es fs → Contains (levels fs a n) es
of_level fs a n es more within b =
    (length es - a, grind (arith, more, within, length-map-range_with_len), grind (arith, more, within, b, get_or-map-range_with_len (λ (m : ℕ). take m fs) a n (length es - a) (length es) es))

levels_distinct : (fs : List Event) (a n : ℕ) → a + n ≤ suc (length fs) → AreDistinct (levels fs a n)
levels_distinct fs a zero h = tt
levels_distinct fs a (suc n) h = (
  λ c. omega (arith, (level_of fs (a + 1) n (take a fs) (omega (arith, h)) c).0, length-take-le a fs (omega (arith, h))),
  levels_distinct fs (a + 1) n (omega (arith, h)),
)

-- Each stretch's own beginnings, and those of all stretches below a number

abbrev own_lists : List Stretch → ℕ → List (List Event)
own_lists ss i = levels (events (stretch_list ss i)) (suc (shared_at ss i)) (length (own_at ss i))

abbrev lists_to : List Stretch → ℕ → List (List Event)
lists_to ss zero = []
lists_to ss (suc n) = lists_to ss n ++ own_lists ss n

lists_length : (ss : List Stretch) (n : ℕ) → length (lists_to ss (suc n)) ≡ length (lists_to ss n) + length (own_at ss n)
lists_length ss n = grind (arith, length-append, length-map-range_with_len, own_at)

lists_more : (s : Stretch) (ss : List Stretch) (n : ℕ) → length (lists_to (s ∷ ss) (suc n)) ≡ length s.entries.items + length (lists_to ss n)
lists_more s ss zero = omega (arith, lists_length (s ∷ ss) 0)
lists_more s ss (suc n) = omega (arith, lists_more s ss n, lists_length (s ∷ ss) (suc n), lists_length ss n)

lists_counted : (ss : List Stretch) → length (lists_to ss (length ss)) ≡ entry_count ss
lists_counted [] = refl
lists_counted (s ∷ ss) = omega (arith, lists_more s ss (length ss), lists_counted ss)

-- the list begins the list of a stretch below n, and has more events than this stretch shares
abbrev IsListed : List Stretch → ℕ → List Event → Type 0
IsListed ss n es = (at : ℕ) × (at < n) × (shared_at ss at < length es) × Begins es (events (stretch_list ss at))

along_begun : (ss : List Stretch) (i : ℕ) (es : List Event) → Begins es (events (stretch_list ss i)) → AgreesFor ss i (length es) es
along_begun ss i es b = record { enough = omega arith; alike = b ∙ sym (take-length es) }

begun_within : (ss : List Stretch) (i : ℕ) (es : List Event) → Begins es (events (stretch_list ss i)) → length es ≤ length (stretch_list ss i)
begun_within ss i es b = omega (arith, begins_shorter es (events (stretch_list ss i)) b, event_length (stretch_list ss i))

-- if two lists begin alike, what begins the one begins the other
begun_taken : (es : List Event) (xs ys : List Entry) → take (length es) xs ≡ take (length es) ys → Begins es (events xs) → Begins es (events ys)
begun_taken es xs ys same b = grind (arith, take-map)

-- what begins the events of a bookmark begins the events of some stretch's list
begins_list : (ss : List Stretch) (ms : List (MarkName × Node)) (es : List Event) → IsPrefixOfSomeMark (marks_of (named_entries ss ms)) es → (i : ℕ) × Begins es (events (stretch_list ss i))
begins_list ss ms es h =
    let found = mapped_contains (λ (x : MarkName × List Entry). mark_of x) (named_entries ss ms) h.mark h.among in
    let named = mapped_contains (λ (x : MarkName × Node). (x.0, entries_at ss x.1)) ms found.0 found.1 in
    let p = named.0.1 in
    let xs = stretch_list ss p.stretch in
    let b : Begins es (events (take p.number xs)) = grind arith in
    (p.stretch, grind (arith, b, begins_shorter es (events (take p.number xs)) b, event_length (take p.number xs), length-take p.number xs, events_of_first p.number xs, take-take (length es) p.number (events xs)))

-- if a bookmark needs no new entry, the search for its events finds all of them
pub all_along : (ss : List Stretch) (ms : List (MarkName × Node)) (at n : ℕ) (es : List Event) → AgreesFor ss at n es → IsDeepest ss n es
    → NeedsNoEntry (marks_of (named_entries ss ms)) es → n ≡ length es
all_along ss ms at n es along deepest none =
    elim (cases_lt n (length es)) [
      | inl less ↦
          let l = begins_list ss ms es (none (omega (arith, less))) in
          let on = along_less ss l.0 (suc n) (length es) es (omega (arith, less)) (along_begun ss l.0 es l.1) in
          grind (arith, on, deepest l.0, cases_lt l.0 (length ss), list_past ss l.0, along_within ss l.0 (suc n) es)
      | inr all ↦ omega (arith, all, along.enough)
    ]

greatest_there : (i n : ℕ) (ps : List Node) → 0 < n → n ≤ greatest_len_in_stretch i ps → (p : Node) × Contains ps p × (p.stretch ≡ i) × (n ≤ p.number)
greatest_there i n [] some h = absurd (omega (arith, some, h))
greatest_there i n (p ∷ ps) some h =
    elim (cases_lt (node_len_in_stretch i p) n) [
      | inl less ↦ let rest = greatest_there i n ps some (omega (arith, less, h)) in (rest.0, contains_later p rest.0 ps rest.1, rest.2, rest.3)
      | inr fine ↦ (p, contains_first p ps, grind (arith, nat_tests), grind (arith, nat_tests))
    ]

module _ (ss : List Stretch) (rule : AreNested ss) where
  fits : (i : ℕ) → suc (shared_at ss i) + length (own_at ss i) ≡ suc (length (events (stretch_list ss i)))
  fits i = omega (arith, total ss rule i, length-map (stretch_list ss i) (λ (x : Entry). x.event))

  listed : (n : ℕ) (es : List Event) → Contains (lists_to ss n) es → IsListed ss n es
  listed zero es c = absurd (omega (arith, c.1))
  listed (suc n) es c =
      elim (Contains-append_cases (lists_to ss n) (own_lists ss n) es c) [
        | inl before ↦ let l = listed n es before in (l.0, omega (arith, l.1), l.2, l.3)
        | inr here ↦
            let l = level_of (events (stretch_list ss n)) (suc (shared_at ss n)) (length (own_at ss n)) es (omega (arith, fits n)) here in
            (n, omega arith, l.0, l.1)
      ]

  is_listed : (n at : ℕ) (es : List Event) → at < n → shared_at ss at < length es → Begins es (events (stretch_list ss at)) → Contains (lists_to ss n) es
  is_listed zero at es h more b = absurd (omega (arith, h))
  is_listed (suc n) at es h more b =
      elim (cases_eq at n) [
        | inl same ↦
            subst (λ (k : ℕ). Contains (lists_to ss n ++ own_lists ss k) es) same
            (Contains-append_right (lists_to ss n) (own_lists ss at) es
            (of_level (events (stretch_list ss at)) (suc (shared_at ss at)) (length (own_at ss at)) es more (omega (arith, total ss rule at, begun_within ss at es b)) b))
        | inr apart ↦ Contains-append_left (lists_to ss n) (own_lists ss n) es (is_listed n at es (omega (arith, h, apart)) more b)
      ]

  distinct_to : AreFresh ss → (n : ℕ) → n ≤ length ss → AreDistinct (lists_to ss n)
  distinct_to fresh zero h = tt
  distinct_to fresh (suc n) h =
      distinct_joined (lists_to ss n) (own_lists ss n) (distinct_to fresh n (omega (arith, h))) (levels_distinct (events (stretch_list ss n)) (suc (shared_at ss n)) (length (own_at ss n))
      (omega (arith, fits n)))
      (λ es first second. grind (arith, h, fits n, listed n es first, level_of (events (stretch_list ss n)) (suc (shared_at ss n)) (length (own_at ss n)) es, second, not_both ss rule fresh n, along_begun))

  -- a non-empty list that begins the list of a stretch is one stretch's own beginning, of this or
  -- an earlier one
  owner : (i : ℕ) (es : List Event) → 0 < length es → Begins es (events (stretch_list ss i)) → IsListed ss (suc i) es
  owner zero es some b = (0, omega arith, omega (arith, shared_within ss rule 0, some), b)
  owner (suc i) es some b =
      elim (cases_lt (shared_at ss (suc i)) (length es)) [
        | inl own ↦ (suc i, omega arith, own, b)
        | inr less ↦
            let l = owner i es some (begun_taken es (stretch_list ss (suc i)) (stretch_list ss i) (begins_shared ss rule (suc i) (length es) less) b) in
            (l.0, omega (arith, l.1), l.2, l.3)
      ]

  module _ (ms : List (MarkName × Node)) (needed : AreNeeded ss (map (λ (m : MarkName × Node). m.1) ms)) where
    reached : (fuel i n : ℕ) → length ss ≤ i + fuel → i < length ss → n ≤ length (stretch_list ss i)
        → (m : MarkName × Node) × Contains ms m × (take n (entries_at ss m.1) ≡ take n (stretch_list ss i))
    reached zero i n enough inside h = absurd (omega (arith, enough, inside))
    reached (suc fuel) i n enough inside h =
        elim (cases_lt (greatest_len_in_stretch i (map (λ (m : MarkName × Node). m.1) ms)) (length (stretch_list ss i))) [
          | inr there ↦
              let p = greatest_there i (length (stretch_list ss i)) (map (λ (m : MarkName × Node). m.1) ms) (omega (arith, rule.some i inside)) there in
              let m = mapped_contains (λ (m : MarkName × Node). m.1) ms p.0 p.1 in
              (m.0, m.1, grind (arith, take-take))
          | inl less ↦
              let next : length (stretch_list ss i) ≤ shared_at ss (suc i) = omega (arith, needed i (omega arith) inside, less) in
              elim (cases_lt (suc i) (length ss)) [
                | inr past ↦ absurd (omega (arith, shared_past ss (suc i) past, next, rule.some i inside))
                | inl more ↦
                    let rest = reached fuel (suc i) n (omega (arith, enough)) more (omega (arith, rule.some (suc i) more, next, h)) in
                    (rest.0, rest.1, rest.2 ∙ begins_shared ss rule (suc i) n (omega (arith, next, h)))
              ]
        ]

    -- each beginning of a stretch's list begins the entries of some bookmark
    pub begins_some_bookmark : (i n : ℕ) → i < length ss → n ≤ length (stretch_list ss i) → (m : MarkName × Node) × Contains ms m × (take n (entries_at ss m.1) ≡ take n (stretch_list ss i))
    begins_some_bookmark i n inside h = reached (length ss) i n (omega arith) inside h

    pub counts : AreFresh ss → CountsPrefixes (marks_of (named_entries ss ms)) (entry_count ss)
    counts fresh = record {
      lists = lists_to ss (length ss);
      distinct = distinct_to fresh (length ss) (omega arith);
      all = λ es. (begins es, is_one es);
      counted = sym (lists_counted ss);
    }
      where
        begins : (es : List Event) → Contains (lists_to ss (length ss)) es → IsPrefixOfSomeMark (marks_of (named_entries ss ms)) es
        begins es c =
            let l = listed (length ss) es c in
            let r = begins_some_bookmark l.0 (length es) l.1 (begun_within ss l.0 es l.3) in
            let m = r.0 in
            record {
              some = omega (arith, l.2);
              mark = mark_of (m.0, entries_at ss m.1);
              among =
                  contains_mapped (λ (x : MarkName × List Entry). mark_of x) (named_entries ss ms) (m.0, entries_at ss m.1)
                  (contains_mapped (λ (x : MarkName × Node). (x.0, entries_at ss x.1)) ms m r.1);
              begins = begun_taken es (stretch_list ss l.0) (entries_at ss m.1) (sym r.2) l.3;
            }

        is_one : (es : List Event) → IsPrefixOfSomeMark (marks_of (named_entries ss ms)) es → Contains (lists_to ss (length ss)) es
        is_one es h =
            let b = begins_list ss ms es h in
            let l = owner b.0 es h.some b.1 in
            grind (arith, l.2, l.3, is_listed (length ss) l.0 es, list_past ss l.0, begun_within ss l.0 es)

-- There are no more entries than all nodes have together

abbrev greatest_to : List Node → ℕ → ℕ
greatest_to ps zero = 0
greatest_to ps (suc n) = greatest_to ps n + greatest_len_in_stretch n ps

-- another node adds at most its number to the sum, and nothing below its stretch
greatest_one : (p : Node) (ps : List Node) (n : ℕ)
    → (greatest_to (p ∷ ps) n ≤ p.number + greatest_to ps n) × (n ≤ p.stretch → greatest_to (p ∷ ps) n ≤ greatest_to ps n)
greatest_one p ps zero = (omega arith, λ h. omega arith)
greatest_one p ps (suc n) = let rest = greatest_one p ps n in (grind (arith, nat_tests, rest), λ h. grind (arith, nat_tests, rest))

greatest_bound : (ps : List Node) (n : ℕ) → greatest_to ps n ≤ sum_by (λ (p : Node). p.number) ps
greatest_bound [] zero = omega arith
greatest_bound [] (suc n) = omega (arith, greatest_bound [] n)
greatest_bound (p ∷ ps) n = omega (arith, (greatest_one p ps n).0, greatest_bound ps n, sum_by-cons (λ (q : Node). q.number) p ps)

module _ (ss : List Stretch) (rule : AreNested ss) (nodes : List Node) (needed : AreNeeded ss nodes) where
  count_bound : (n : ℕ) → n ≤ length ss → length (lists_to ss n) ≤ shared_at ss n + greatest_to nodes n
  count_bound zero h = omega arith
  count_bound (suc n) h = omega (arith, count_bound n (omega (arith, h)), total ss rule n, lists_length ss n, needed n (omega arith) (omega (arith, h)))

  pub count_bounded : entry_count ss ≤ sum_by (λ (p : Node). p.number) nodes
  count_bounded =
      omega (arith, count_bound (length ss) (omega arith), shared_past ss (length ss) (omega arith), lists_counted ss, greatest_bound nodes (length ss))
