-- Reading the entries of a node, and comparing the stretches with other entries.
use Rattle.rd_marks.proofs.Prelude.{◌≡◌, ◌⊎◌, ℕ, zero, suc, ◌+◌, ◌-◌, ◌<◌, ◌≤◌, length-drop, refl, sym, ap, ◌∙◌, List, [], ◌∷◌, ◌++◌, length, take, drop, get_or, reverse, slice_get, option_map, Some, arith, drop-cons, take-add, cases_lt, append_assoc, drop-map, drop-take, length-map, reverse-append, take-take, slice_get-map, slice_get_read, Event, Entry, Node, Stretch, entry_count, stretch_list, list_before, shared_at, entries_at, IsWithin, IsCanonical, AgreesFor, AreNested, AreFresh, events, numbered}
use Rattle.rd_depend.proofs.Elements.{take-element}
use Rattle.rd_journal.proofs.ListLemmas.{nth}
use Rattle.rd_marks.proofs.StretchLists.{own_at, stretch_there, total, shared_within, begins_shared, behind_shared, list_past}
use Rattle.rd_marks.proofs.Fresh.{Follows, follows_compared, follows_skipped, along_itself, along_within, between}
use Rattle.rd_marks.proofs.Starting.{first_events, stretch_within}

-- Positions in lists

slice_get_take : {X : Type 0} (xs : List X) (m n : ℕ) → n < m → slice_get (take m xs) n ≡ slice_get xs n
slice_get_take xs zero n h = absurd (omega (arith, h))
slice_get_take [] (suc m) n h = refl
slice_get_take (x ∷ xs) (suc m) zero h = refl
slice_get_take (x ∷ xs) (suc m) (suc n) h = slice_get_take xs m n (omega (arith, h))

slice_get_drop : {X : Type 0} (xs : List X) (m n : ℕ) → slice_get (drop m xs) n ≡ slice_get xs (m + n)
slice_get_drop xs zero n = ap (slice_get xs) (let e : n ≡ 0 + n = omega arith in e)
slice_get_drop [] (suc m) n = refl
slice_get_drop (x ∷ xs) (suc m) n = slice_get_drop xs m n ∙ ap (slice_get (x ∷ xs)) (let e : suc (m + n) ≡ suc m + n = omega arith in e)

-- Reading from the last entry to the first

-- one more entry was read, in front of those that were read before
pub read_on : {X : Type 0} (ps qs rs xs : List X) (x : X) → ps ≡ qs ++ x ∷ [] → xs ≡ ps ++ reverse rs → xs ≡ qs ++ reverse (rs ++ x ∷ [])
read_on {X} ps qs rs xs x h k = grind (arith, reverse, append_assoc, reverse-append)

-- the last of the first n entries has the event of number n
pub event_there : (xs : List Entry) (m n k : ℕ) (x : Entry) → 1 ≤ n → m ≡ n → k ≡ m - 1 → slice_get (take m xs) k ≡ Some x → (l : ℕ) → n ≤ l → Some x.event ≡ numbered (events (take l xs)) n
event_there xs m n k x some same at h l fewer = grind (arith, slice_get, slice_get_take, slice_get-map, option_map)

-- dropping k entries and then taking the events is dropping k events
pub events_behind : (k : ℕ) (xs : List Entry) → events (drop k xs) ≡ drop k (events xs)
events_behind k xs = sym (drop-map (λ (x : Entry). x.event) k xs)

-- a stretch that was read at index i shares and keeps what the i-th one does
pub stretch_at : (ss xs : List Stretch) (i : ℕ) (s : Stretch) → xs ≡ ss → i < length xs → s ≡ get_or xs i s → (i < length ss) × (shared_at ss i ≡ s.shared) × (own_at ss i ≡ s.entries.items)
stretch_at ss xs i s same inside its = grind (arith, stretch_there)

-- counting the entries of one more stretch
pub count_on : (ss : List Stretch) (i : ℕ) (s : Stretch) → i < length ss → s ≡ get_or ss i s → entry_count (drop i ss) ≡ length s.entries.items + entry_count (drop (suc i) ss)
count_on ss i s inside its = grind (arith, drop-cons)

module _ (ss : List Stretch) (rule : AreNested ss) where
  -- if the stretch shares all entries of a node, the list before it has them too
  pub entries_in_list_before : (p : Node) → 0 < p.stretch → p.number ≤ shared_at ss p.stretch
      → IsWithin ss (record { stretch = p.stretch - 1; number = p.number }) × (entries_at ss (record { stretch = p.stretch - 1; number = p.number }) ≡ entries_at ss p)
  entries_in_list_before p some h = grind (arith, some, h, shared_within ss rule (suc (p.stretch - 1)), begins_shared ss rule (suc (p.stretch - 1)) p.number)

  -- if the lists from stretch `one` to i begin alike, so does the next one, as far as it shares
  pub common_on : (one i c d : ℕ) → d ≤ c → d ≤ shared_at ss (suc i) → take c (stretch_list ss i) ≡ take c (stretch_list ss one) → take d (stretch_list ss (suc i)) ≡ take d (stretch_list ss one)
  common_on one i c d less shared same =
      begins_shared ss rule (suc i) d shared ∙ sym (take-take d c (stretch_list ss i) less) ∙ ap (take d) same ∙ take-take d c (stretch_list ss one) less

  -- a node whose last entry is its stretch's own has no fewer entries than the stretch shares
  pub own_number : (p : Node) → IsCanonical ss p → shared_at ss p.stretch ≤ p.number
  own_number p own = grind (arith, shared_within)

  pub own_less : (p : Node) → IsCanonical ss p → 0 < p.number → shared_at ss p.stretch < p.number
  own_less p own some = grind (arith, shared_within)

  -- a node has the entries of the node with one fewer, and its own last one
  pub without_last : (p : Node) (x : Entry) → 0 < p.number → slice_get (entries_at ss p) (p.number - 1) ≡ Some x
      → entries_at ss p ≡ entries_at ss (record { stretch = p.stretch; number = p.number - 1 }) ++ x ∷ []
  without_last p x some its =
      let parts : p.number ≡ suc (p.number - 1) = omega (arith, some) in
      ap (λ (n : ℕ). take n (stretch_list ss p.stretch)) parts
      ∙ take-element (stretch_list ss p.stretch) (p.number - 1) x (sym (slice_get_take (stretch_list ss p.stretch) p.number (p.number - 1) (omega (arith, some))) ∙ its)

  -- if the stretch shares at most n entries, a node's entries after the first n are all its own
  pub own_entries_after : (p : Node) (n : ℕ) → IsWithin ss p → shared_at ss p.stretch ≤ n → n ≤ p.number
      → take (p.number - shared_at ss p.stretch - (n - shared_at ss p.stretch)) (drop (n - shared_at ss p.stretch) (own_at ss p.stretch)) ≡ drop n (entries_at ss p)
  own_entries_after p n within shared fewer = grind (arith, behind_shared ss rule p.stretch n shared, drop-take n (p.number - n) (stretch_list ss p.stretch))

  -- if a node has more entries than its stretch shares, its last one is its stretch's own
  pub last_own : (p : Node) (x : Entry) → shared_at ss p.stretch < p.number → slice_get (own_at ss p.stretch) (p.number - shared_at ss p.stretch - 1) ≡ Some x
      → slice_get (entries_at ss p) (p.number - 1) ≡ Some x
  last_own p x less its =
      let fact = slice_get_drop (stretch_list ss p.stretch) (shared_at ss p.stretch) (p.number - shared_at ss p.stretch - 1) in
      grind (arith, its, behind_shared ss rule p.stretch (shared_at ss p.stretch), slice_get_take (stretch_list ss p.stretch) p.number (p.number - 1), fact)

  -- how many events of another list a stretch's list begins with
  module _ (i n m : ℕ) (es : List Event) (shared : shared_at ss i ≤ n) (along : AgreesFor ss i n es) where
    own_events : drop n (events (stretch_list ss i)) ≡ events (drop (n - shared_at ss i) (own_at ss i))
    own_events = sym (events_behind n (stretch_list ss i)) ∙ ap events (behind_shared ss rule i n shared)

    pub along_further : m ≤ length es - n → take m (events (drop (n - shared_at ss i) (own_at ss i))) ≡ take m (drop n es) → AgreesFor ss i (n + m) es
    along_further few same = grind (arith, few, same, along, own_events, take-add n m (events (stretch_list ss i)), take-add n m es)

    pub along_no_further : ((e : Event) → slice_get (events (drop (n - shared_at ss i) (own_at ss i))) m ≡ Some e → slice_get (drop n es) m ≡ Some e → ⊥) → AgreesFor ss i (suc (n + m)) es → ⊥
    along_no_further apart further =
        let xs = events (stretch_list ss i) in
        let found = nth es (n + m) further.enough in
        let there = slice_get_read es (length es) (n + m) found.0 refl further.enough found.1 in
        grind (arith, there, further.alike, own_events, slice_get_drop xs n m, slice_get_drop es n m, slice_get_take xs (suc (n + m)) (n + m), slice_get_take es (suc (n + m)) (n + m), apart found.0)

-- Following the stretches along events

module _ (ss : List Stretch) (rule : AreNested ss) (fresh : AreFresh ss) (es : List Event) (k : ℕ) (at : Node) (f : Follows ss es k at.stretch at.number) (high : at.stretch ≤ k) where
  pub step_compared : (at.stretch ≡ k) ⊎ (at.number ≤ shared_at ss k) → shared_at ss k ≤ at.number → (m : ℕ) → at.number ≤ m → AgreesFor ss k m es → (AgreesFor ss k (suc m) es → ⊥)
      → (next : Node) → (at.number < m → next ≡ record { stretch = k; number = m }) → (m ≡ at.number → next ≡ at) → Follows ss es (suc k) next.stretch next.number × (next.stretch ≤ k)
  step_compared low shared m h along most next more others = grind (arith, cases_lt at.number m, more, others, follows_compared ss rule fresh es k at.stretch at.number m f h along most)

  pub step_skipped : (at.stretch ≡ k → shared_at ss k ≤ at.number) → at.number < shared_at ss k → Follows ss es (suc k) at.stretch at.number × (at.stretch ≤ k)
  step_skipped own more = grind (arith, own, more, high, follows_skipped ss rule fresh es k at.stretch at.number f)

-- The entries with which both nodes begin

module _ (ss : List Stretch) (rule : AreNested ss) (fresh : AreFresh ss) (one other : Node) (within : IsWithin ss one) (within_too : IsWithin ss other) where
  pub common_most : (n : ℕ) → n ≤ one.number → n ≤ other.number → take n (events (entries_at ss one)) ≡ take n (events (entries_at ss other))
      → (k : ℕ) → one.stretch < k → k ≤ other.stretch → n ≤ shared_at ss k
  common_most zero h l same k low high = omega arith
  common_most (suc n) h l same k low high =
      let es = events (stretch_list ss other.stretch) in
      between ss rule fresh one.stretch other.stretch (suc n) es (stretch_within ss other within_too (omega (arith, l)))
      (record { enough = omega (arith, length-map (stretch_list ss other.stretch) (λ (x : Entry). x.event), within_too, l); alike = sym (first_events ss one (suc n) h) ∙ same ∙ first_events ss other (suc n) l })
      (along_itself ss other.stretch (suc n) (omega (arith, within_too, l))) k low high

-- The next number at which a stretch can be inserted

-- the list before the i-th stretch begins with the entries of the node
pub record Reaches (ss : List Stretch) (at : Node) (i : ℕ) : Type 0 where
  pub enough : at.number ≤ length (list_before ss i)
  pub same : take at.number (list_before ss i) ≡ entries_at ss at

module _ (ss : List Stretch) (rule : AreNested ss) (at : Node) (within : IsWithin ss at) where
  pub reaches_on : (i : ℕ) → (at.stretch ≡ i) ⊎ (at.number < shared_at ss i) → (at.stretch < i → Reaches ss at i) → at.stretch ≤ i → Reaches ss at (suc i)
  reaches_on i h before high = grind (arith, total, begins_shared)

  -- after the last stretch, the list before begins with the entries of the node
  pub reaches_end : (i n : ℕ) → n ≡ length ss → (at.stretch < length ss → i ≡ n) → (at.stretch < i → Reaches ss at i) → Reaches ss at n
  reaches_end i n all end before = grind (arith, list_past, cases_lt at.stretch (length ss), end, before)

-- Rules for reading the last entry of a node, and for counting how far a list agrees with others
pub ruleset last_steps = (stretch_within, stretch_at, own_less, last_own, slice_get, slice_get_read, total)

pub ruleset along_steps = (stretch_at, along_within, along_further, along_no_further, slice_get, length-drop, length-map, events_behind, total)
