-- The bookmarks after one was added, and after stretches were cut.
use Rattle.rd_marks.proofs.Prelude.{◌≡◌, ℕ, zero, suc, ◌^◌, ◌<◌, ◌≤◌, inl, inr, refl, sym, ap, ◌∙◌, subst, List, [], ◌∷◌, ◌++◌, map, length, take, drop, length-append, All, arith, cases_lt, sum_by-le, length-map, map-append, take-append-drop, All-push, All-contains, All-head, All-map, All-nil, All-tail, World, MOST_STEPS, Event, Entry, Begins, MarkName, Node, Stretch, Shift, shifted, Stays, IsGrown, IsShrunk, KeepsEntries, MOST_MARKS, AreEntriesOfRun, AreRuns, IsKept, IsPruned, named_entries, nodes_of, entry_count, stretch_list, entries_at, greatest_len_in_stretch, needed_at, IsWithin, AgreesFor, AreNested, AreNeeded, AreNeededFrom, nat_tests, events, IsRunFrom, run, take-length, map-id}
use Rattle.std.proofs.lemmas.Map.Made.{keys_of-map_values}
use mathlib.Core.List.{map-map}
use Rattle.rd_marks.specs.declared.stretches.changes.Grown.{Grown}
use Rattle.rd_marks.specs.declared.stretches.changes.Shift.TheVariants.{Same}
use Rattle.rd_marks.proofs.Counting.{begins_some_bookmark, contains_mapped, count_bounded}
use Rattle.rd_marks.proofs.EntryLemmas.{begin_alike}
use Rattle.rd_marks.proofs.Starting.{begins_trans, events_of_first, fewer_begin, stretch_within}

-- the names with their nodes, renumbered as the shift says
abbrev pub names_shifted : Shift → List (MarkName × Node) → List (MarkName × Node)
names_shifted shift ms = map (λ (m : MarkName × Node). (m.0, shifted shift m.1)) ms

-- the lists of the names have just the names
pub names_same : (ss : List Stretch) (ms : List (MarkName × Node)) → map (λ (l : MarkName × List Entry). l.0) (named_entries ss ms) ≡ map (λ (m : MarkName × Node). m.0) ms
names_same ss ms = keys_of-map_values (entries_at ss) ms

pub nodes_shifted : (shift : Shift) (ms : List (MarkName × Node)) → nodes_of (names_shifted shift ms) ≡ map (shifted shift) (nodes_of ms)
nodes_shifted shift ms =
    map-map (λ (m : MarkName × Node). m.1) (λ (m : MarkName × Node). (m.0, shifted shift m.1)) ms ∙ sym (map-map (shifted shift) (λ (m : MarkName × Node). m.1) ms)

module _ (old new : List Stretch) (shift : Shift) where
  -- each name keeps its entries if its node does
  pub lists_shifted : (ms : List (MarkName × Node)) → All (λ (m : MarkName × Node). Stays old new shift m.1) ms → named_entries new (names_shifted shift ms) ≡ named_entries old ms
  lists_shifted [] h = refl
  lists_shifted (m ∷ ms) h =
      (λ i. (m.0, (All-head (λ (n : MarkName × Node). Stays old new shift n.1) m ms h).same i) ∷ lists_shifted ms (All-tail (λ (n : MarkName × Node). Stays old new shift n.1) m ms h) i)

  pub within_shifted : (ms : List (MarkName × Node)) → All (λ (m : MarkName × Node). Stays old new shift m.1) ms → All (λ (m : MarkName × Node). IsWithin new m.1) (names_shifted shift ms)
  within_shifted ms h =
      All-map (λ (m : MarkName × Node). IsWithin new m.1) (λ (m : MarkName × Node). (m.0, shifted shift m.1)) ms (λ k d inside. (h k d inside).within)

-- No bookmark was added

module _ (old new : List Stretch) (unchanged : KeepsEntries old new) where
  lists_same : (ms : List (MarkName × Node)) → All (λ (m : MarkName × Node). IsWithin old m.1) ms → named_entries new ms ≡ named_entries old ms
  lists_same ms h = ap (named_entries new) (sym (map-id ms)) ∙ lists_shifted old new Same ms (λ k d inside. unchanged.stays _ (h k d inside))

  pub kept_same : (ms es : List (MarkName × Node)) (here : Node) → es ≡ ms → IsKept old ms here
      → IsKept new es here × (named_entries new es ≡ named_entries old ms) × (entries_at new here ≡ entries_at old here)
  kept_same ms es here its kept =
      let within : All (λ (m : MarkName × Node). IsWithin new m.1) ms = λ k d inside. (unchanged.stays _ (kept.within k d inside)).within in
      grind (arith, its, kept, within, lists_same ms kept.within, unchanged.stays here kept.lies, unchanged.needed)

-- A node whose events begin the live ones has the first live entries

pub same_entries : (w : World) (ss : List Stretch) → AreNested ss → (ms : List (MarkName × Node)) → AreNeeded ss (nodes_of ms) → AreRuns w (named_entries ss ms)
    → (at : Node) → IsWithin ss at → (live : List Entry) → IsRunFrom w live → AgreesFor ss at.stretch at.number (events live) → entries_at ss at ≡ take at.number live
same_entries w ss rule ms needed runs at within live run along = by at.number refl
  where
    by : (n : ℕ) → at.number ≡ n → entries_at ss at ≡ take at.number live
    by zero none = rw none refl
    by (suc n) some =
        let r = begins_some_bookmark ss rule ms needed at.stretch at.number (stretch_within ss at within (omega (arith, some))) within in
        let all = All-contains (λ (l : MarkName × List Entry). AreEntriesOfRun w l.1) (named_entries ss ms) (r.0.0, entries_at ss r.0.1) runs
        (contains_mapped (λ (m : MarkName × Node). (m.0, entries_at ss m.1)) ms r.0 r.1) in
        grind (arith, r.2, along, events_of_first at.number (entries_at ss r.0.1), events_of_first at.number (stretch_list ss at.stretch), begin_alike at.number w (entries_at ss r.0.1) live all.ran run)

-- Cutting stretches

pub greatest_of : (i : ℕ) (ms : List (MarkName × Node)) → All (λ (m : MarkName × Node). m.1.stretch ≡ i → m.1.number ≤ greatest_len_in_stretch i (nodes_of ms)) ms
greatest_of i [] = All-nil (λ (m : MarkName × Node). m.1.stretch ≡ i → m.1.number ≤ 0)
greatest_of i (m ∷ ms) = grind (arith, nat_tests, greatest_of i ms)

module _ (old new : List Stretch) (i n : ℕ) (shift : Shift) (shrunk : IsShrunk old new i n shift) (ms : List (MarkName × Node)) (its : n ≡ needed_at old (nodes_of ms) i)
    (within : All (λ (m : MarkName × Node). IsWithin old m.1) ms) (needed : AreNeededFrom (suc i) old (nodes_of ms)) where
  stay_left : All (λ (m : MarkName × Node). Stays old new shift m.1) ms
  stay_left = λ k d inside. shrunk.stays _ (within k d inside) (λ here. omega (arith, greatest_of i ms k d inside here, its))

  -- after the i-th stretch was cut, the bookmarks and `here` are as `IsPruned` states
  pub pruned : (here kept : Node) → IsWithin old here → kept.stretch ≡ here.stretch → kept.number ≤ here.number → (kept.stretch ≡ i → kept.number ≤ n)
      → IsPruned i old new ms (names_shifted shift ms) here (shifted shift kept)
  pruned here kept lies same fewer left =
      let first = fewer_begin old here kept lies same fewer in
      let stays = shrunk.stays kept first.0 left in
      record {
        lists = lists_shifted old new shift ms stay_left;
        within = within_shifted old new shift ms stay_left;
        needed = subst (λ (ps : List Node). AreNeededFrom i new ps) (sym (nodes_shifted shift ms)) (shrunk.needed (nodes_of ms) needed its);
        lies = stays.within;
        begins = subst (λ (xs : List Entry). Begins xs (entries_at old here)) (sym stays.same) first.1;
      }

-- before any stretch is cut, `IsPruned` holds after the last one; and cuts in a row compose
pub pruned_from_end : (ss : List Stretch) (ms : List (MarkName × Node)) (here : Node) → All (λ (m : MarkName × Node). IsWithin ss m.1) ms → IsWithin ss here
    → IsPruned (length ss) ss ss ms ms here here
pruned_from_end ss ms here within lies = grind (arith, take-length)

pub prunings_compose : (i k : ℕ) (a b c : List Stretch) (ms ns ls : List (MarkName × Node)) (p q r : Node) → IsPruned k a b ms ns p q → IsPruned i b c ns ls q r → IsPruned i a c ms ls p r
prunings_compose i k a b c ms ns ls p q r first second = grind (arith, begins_trans)

-- The number of all entries fits in 64 bits

number_few : (ss : List Stretch) → AreNested ss → (p : Node) → IsWithin ss p → p.number ≤ MOST_STEPS
number_few ss rule p within = grind (arith, stretch_within)

-- the number of all entries is below 2^64
pub count_fits : (ss : List Stretch) → AreNested ss → (ms : List (MarkName × Node)) → AreNeeded ss (nodes_of ms) → All (λ (m : MarkName × Node). IsWithin ss m.1) ms
    → length ms ≤ MOST_MARKS → entry_count ss < 2 ^ 64
count_fits ss rule ms needed within few =
    let all = All-map (λ (p : Node). p.number ≤ MOST_STEPS) (λ (m : MarkName × Node). m.1) ms (λ k d inside. number_few ss rule _ (within k d inside)) in
    omega (arith, count_bounded ss rule (nodes_of ms) needed, sum_by-le (λ (p : Node). p.number) MOST_STEPS (nodes_of ms) all, length-map ms (λ (m : MarkName × Node). m.1), few)

-- Adding a bookmark

-- after a bookmark was added at the live entries, the invariant holds (`kept`), it is the last one
-- (`lists`), all are runs (`runs`), and `here` begins the track (`stands`)
pub record IsSet (w : World) (old new : List Stretch) (ms es : List (MarkName × Node)) (name : MarkName) (live : List Entry) (steps : List Event) (there : Node) : Type 0 where
  pub kept : IsKept new es there
  pub lists : named_entries new es ≡ named_entries old ms ++ (name, live) ∷ []
  pub runs : AreRuns w (named_entries new es)
  pub stands : Begins (events (entries_at new there)) steps

module _ (w : World) (old new : List Stretch) (rule : AreNested old) (ms : List (MarkName × Node)) (here : Node) (kept : IsKept old ms here) (fewer : length (named_entries old ms) < MOST_MARKS)
    (runs : AreRuns w (named_entries old ms)) (live : List Entry) (run : AreEntriesOfRun w live) (steps : List Event) (stands : Begins (events (entries_at old here)) steps)
    (began : Begins (events live) steps) (at : Node) (within : IsWithin old at) (along : AgreesFor old at.stretch at.number (events live))
    (grown : Grown) (grows : IsGrown old new at live grown) (name : MarkName) where
  stay : All (λ (m : MarkName × Node). Stays old new grown.shift m.1) ms
  stay = λ k d inside. grows.stays _ (kept.within k d inside)

  -- the new node has the live entries
  its_entries : entries_at new grown.node ≡ live
  its_entries =
      grows.put ∙ ap (λ (xs : List Entry). xs ++ drop at.number live) (same_entries w old rule ms kept.needed runs at within live run.ran along) ∙ take-append-drop at.number live

  abbrev put : List (MarkName × Node)
  put = names_shifted grown.shift ms ++ (name, grown.node) ∷ []

  lists_put : named_entries new put ≡ named_entries old ms ++ (name, live) ∷ []
  lists_put =
      map-append (λ (m : MarkName × Node). (m.0, entries_at new m.1)) (names_shifted grown.shift ms) ((name, grown.node) ∷ [])
      ∙ (λ i. lists_shifted old new grown.shift ms stay i ++ (name, its_entries i) ∷ [])

  -- the invariant of the bookmarks holds with the new one
  kept_put : (there : Node) → IsWithin new there → IsKept new put there
  kept_put there lies =
      let were = length-map {B = MarkName × List Entry} ms (λ m. (m.0, entries_at old m.1)) in
      let are = length-map {B = MarkName × Node} ms (λ m. (m.0, shifted grown.shift m.1)) in
      record {
        few = omega (arith, fewer, were, are, length-append (names_shifted grown.shift ms) ((name, grown.node) ∷ []));
        within =
            All-push (λ (m : MarkName × Node). IsWithin new m.1) (names_shifted grown.shift ms) (name, grown.node) (within_shifted old new grown.shift ms stay) grows.within;
        needed =
            rw (map-append (λ (m : MarkName × Node). m.1) (names_shifted grown.shift ms) ((name, grown.node) ∷ []), nodes_shifted grown.shift ms) (grows.needed (nodes_of ms) kept.needed);
        lies = lies;
      }

  -- `there` is where `here` is after the first n live entries were added: it is within the new
  -- stretches, and its events still begin the track
  here_put : (there : Node) (n : ℕ) → (here.number ≤ n → there ≡ grown.node) → (n < here.number → there ≡ shifted grown.shift here)
      → IsWithin new there × Begins (events (entries_at new there)) steps
  here_put there n near far =
      elim (cases_lt n here.number) [
        | inl over ↦ let stays = grows.stays here kept.lies in rw (far over) (stays.within, rw stays.same stands)
        | inr short ↦ rw (near short) (grows.within, rw its_entries began)
      ]

  pub is_set : (mid es : List (MarkName × Node)) → mid ≡ ms → es ≡ names_shifted grown.shift mid ++ (name, grown.node) ∷ [] → (there : Node) (n : ℕ)
      → (here.number ≤ n → there ≡ grown.node) → (n < here.number → there ≡ shifted grown.shift here) → IsSet w old new ms es name live steps there
  is_set mid es reserved its there n near far =
      let lies = here_put there n near far in
      let lists : named_entries new es ≡ named_entries old ms ++ (name, live) ∷ [] = rw (its, reserved) lists_put in
      record {
        kept = rw (its, reserved) (kept_put there lies.0);
        lists = lists;
        runs = rw lists (All-push (λ (l : MarkName × List Entry). AreEntriesOfRun w l.1) (named_entries old ms) (name, live) runs run);
        stands = lies.1;
      }
