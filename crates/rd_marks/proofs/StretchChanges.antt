-- Inserting, removing and changing a stretch keeps the invariant, and each node keeps its entries.
use Rattle.rd_marks.proofs.Prelude.{◌≡◌, ◌⊎◌, ℕ, zero, suc, ◌+◌, ◌-◌, ◌<◌, ◌≤◌, inl, inr, refl, sym, ap, ◌∙◌, subst, List, [], ◌∷◌, ◌++◌, map, length, take, length-take, arith, cases_lt, cases_eq, cases_order, nat_tests, length-map, take-append-le, take-take, take-map, MOST_STEPS, Event, Entry, Stretch, Node, stretch_list, list_before, shared_at, entries_at, IsWithin, AreNested, AreFresh, greatest_len_in_stretch, needed_at, AreNeeded, AreNeededFrom, AgreesFor, IsDeepest, after_insertion, after_removal, events, max}
use Rattle.rd_marks.proofs.StretchLists.{shared_within, take_continued, IsChanged, IsInserted, IsReplaced}
use Rattle.rd_marks.proofs.Fresh.{along_taken, along_itself, along_both, later_apart}

-- Nodes

-- the nodes, and then the one of the first n entries of the i-th list
abbrev pub with_node : List Node → ℕ → ℕ → List Node
with_node ps i n = ps ++ record { stretch = i; number = n } ∷ []

pub greatest-append : (i : ℕ) (ps qs : List Node) → greatest_len_in_stretch i (ps ++ qs) ≡ max (greatest_len_in_stretch i ps) (greatest_len_in_stretch i qs)
greatest-append i [] qs = omega arith
greatest-append i (p ∷ ps) qs = omega (arith, greatest-append i ps qs)

greatest_after_insertion : (i j : ℕ) (ps qs : List Node)
    → (i < j → greatest_len_in_stretch i ps ≤ greatest_len_in_stretch i (map (after_insertion j) ps ++ qs)) × (j ≤ i → greatest_len_in_stretch i ps ≤ greatest_len_in_stretch (suc i) (map (after_insertion j) ps ++ qs))
greatest_after_insertion i j [] qs = (λ h. omega arith, λ h. omega arith)
greatest_after_insertion i j (p ∷ ps) qs = let rest = greatest_after_insertion i j ps qs in (λ h. grind (arith, nat_tests, rest.0 h), λ h. grind (arith, nat_tests, rest.1 h))

greatest_after_removal : (i j : ℕ) (ps : List Node) → j ≤ i → greatest_len_in_stretch (suc i) ps ≤ greatest_len_in_stretch i (map (after_removal j) ps)
greatest_after_removal i j [] h = omega arith
greatest_after_removal i j (p ∷ ps) h = grind (arith, nat_tests, greatest_after_removal i j ps h)

-- All stretches but the changed one

-- the i-th new stretch has the list of the k-th old one, and shares as many entries; the stretch
-- after it shares no fewer than before
record IsMoved (old new : List Stretch) (j more i k : ℕ) : Type 0 where
  inside : k < length old
  list : stretch_list new i ≡ stretch_list old k
  shared : shared_at new i ≡ shared_at old k
  next : shared_at old (suc k) ≤ shared_at new (suc i)
  fits : shared_at old (suc k) ≤ length (stretch_list old k) → shared_at new (suc i) ≤ length (stretch_list old k)
  node : ((i < j) × (k ≡ i)) ⊎ ((j < i) × (i ≡ more + k))

module _ (old new : List Stretch) (j more : ℕ) (change : IsChanged old new j more) where
  moved : (i : ℕ) → (i ≡ j → ⊥) → i < length new → (k : ℕ) × IsMoved old new j more i k
  moved i other h =
      elim (cases_lt i j) [
        | inl low ↦ (i, grind (arith, cases_order, change.below i low))
        | inr high ↦ (i - more, grind (arith, change.small, change.above i (i - more), change.above (suc i) (suc (i - more))))
      ]

  nested_changed : AreNested old → shared_at new j < length (stretch_list new j) → length (stretch_list new j) ≤ MOST_STEPS → shared_at new (suc j) ≤ length (stretch_list new j) → AreNested new
  nested_changed rule some few next = record { within = within; some = λ i h. (every i h).0; few = λ i h. (every i h).1 }
    where
      every : (i : ℕ) → i < length new → (shared_at new i < length (stretch_list new i)) × (length (stretch_list new i) ≤ MOST_STEPS) × (shared_at new (suc i) ≤ length (stretch_list new i))
      every i h = grind (arith, cases_eq i j, some, few, next, moved i, rule.some, rule.few, shared_within old rule)

      within : (i : ℕ) → i < length new → shared_at new i ≤ length (list_before new i)
      within zero h = grind (arith, cases_order 0 j, change.below 0, change.there, shared_within old rule 0)
      within (suc i) h = (every i (omega (arith, h))).2

  -- `AreFresh` stays if two things hold. No earlier list begins with the changed one up to its
  -- first own event. The changed one begins with no later list up to that list's first own event
  fresh_changed : AreFresh old → ((m : ℕ) → m < j → AgreesFor new j (suc (shared_at new j)) (events (stretch_list old m)) → ⊥)
      → ((k : ℕ) → j < more + k → k < length old → AgreesFor old k (suc (shared_at old k)) (events (stretch_list new j)) → ⊥) → AreFresh new
  fresh_changed fresh own later i m h l a =
      elim (cases_eq i j) [
        | inl same ↦ grind arith
        | inr other ↦
            let from = moved i other l in
            let b : AgreesFor old from.0 (suc (shared_at old from.0)) (events (stretch_list new m)) = grind (arith, a, from.1, along_taken old new from.0 i) in
            grind (arith, b, h, l, change.small, cases_eq m j, moved m, later from.0, from.1, fresh from.0)
      ]

  -- all lists stay needed if the changed one is, and if nodes in the others count for no less
  needed_changed : (ps qs : List Node) (i : ℕ) → i < length new → ((k : ℕ) → IsMoved old new j more i k → length (stretch_list old k) ≤ needed_at old ps k)
      → length (stretch_list new j) ≤ needed_at new qs j → ((k : ℕ) → IsMoved old new j more i k → greatest_len_in_stretch k ps ≤ greatest_len_in_stretch i qs) → length (stretch_list new i) ≤ needed_at new qs i
  needed_changed ps qs i h needed own nodes = grind (arith, own, cases_eq i j, moved i, needed, nodes)

-- A stretch is inserted or removed

module _ (old new : List Stretch) (j : ℕ) (s : Stretch) (change : IsInserted old new j s) where
  pub nested_inserted : AreNested old → s.shared < length (stretch_list new j) → length (stretch_list new j) ≤ MOST_STEPS → AreNested new
  nested_inserted rule some few = grind (arith, nested_changed old new j 1 change.changed rule, change.changed.above (suc j) j, change.changed.less, change.here)

  -- `AreFresh` stays if no list went on as the new one does after the entries that it shares
  pub fresh_inserted : AreNested old → AreFresh old → (at : ℕ) (es : List Event) → events (stretch_list new j) ≡ es → (0 < length old → at < j)
      → AgreesFor old at s.shared es → IsDeepest old s.shared es → AreFresh new
  fresh_inserted rule fresh at es its low along deepest =
      let on = λ (m : ℕ) (a : AgreesFor new j (suc (shared_at new j)) (events (stretch_list old m))).
      along_both old new m j _ _ (along_itself old m _ (omega (arith, a.enough, length-map (stretch_list old m) (λ (x : Entry). x.event)))) a in
      fresh_changed old new j 1 change.changed fresh (λ m h a. grind (arith, h, its, change.changed.within, change.here.1, deepest m, on m a))
      (λ k high there a. later_apart old rule fresh es at s.shared k (omega (arith, low (omega (arith, there)), high)) there along deepest (rw its at a))

  -- a node at the end of the new list needs all of it
  pub needed_inserted : (ps : List Node) (n : ℕ) → length (stretch_list new j) ≤ n → AreNeeded old ps → AreNeeded new (with_node (map (after_insertion j) ps) j n)
  needed_inserted ps n all needed i low h =
      needed_changed old new j 1 change.changed ps (with_node (map (after_insertion j) ps) j n) i h (λ k m. needed k (omega arith) m.inside)
      (grind (arith, nat_tests, greatest-append j (map (after_insertion j) ps) (record { stretch = j; number = n } ∷ []), all))
      (λ k m. grind (arith, m.node, greatest_after_insertion k j ps (record { stretch = j; number = n } ∷ [])))

  -- the new stretch that has the list of the k-th old one
  up : (k : ℕ) → k < length old
      → (i : ℕ) × (i < length new) × (stretch_list new i ≡ stretch_list old k) × (shared_at new i ≡ shared_at old k) × (((k < j) × (i ≡ k)) ⊎ ((j ≤ k) × (i ≡ suc k)))
  up k h =
      elim (cases_lt k j) [
        | inl low ↦ let its = change.changed.below k low in (k, omega (arith, change.changed.count, h), its.0, its.1, inl (low, refl))
        | inr high ↦ let its = change.changed.above (suc k) k (omega arith) (omega (arith, high)) in (suc k, omega (arith, change.changed.count, h), its.0, its.1, inr (high, refl))
      ]

  pub nested_removed : AreNested new → AreNested old
  nested_removed rule = record { within = within; some = λ k h. grind (arith, rule.some, up k h); few = λ k h. grind (arith, rule.few, up k h) }
    where
      within : (i : ℕ) → i < length old → shared_at old i ≤ length (list_before old i)
      within zero h = grind (arith, cases_order 0 j, change.changed.below 0, change.changed.less, change.changed.there, shared_within new rule 0)
      within (suc k) h =
          let its = change.changed in
          let were = shared_within new rule in
          grind (arith, cases_order (suc k) j, its.below k, its.below (suc k), its.less, its.there, its.above (suc k) k, its.above (suc (suc k)) (suc k), were (suc k), were (suc (suc k)))

  pub fresh_removed : AreFresh new → AreFresh old
  fresh_removed fresh i m h l a = grind (arith, a, h, along_taken, up i l, up m, fresh)

  pub needed_removed : (ps : List Node) → AreNeededFrom (suc j) new ps → AreNeededFrom j old (map (after_removal j) ps)
  needed_removed ps needed k high h =
      let above = λ (i : ℕ). change.changed.above (suc i) i (omega arith) in
      grind (arith, needed (suc k), change.changed.count, above k, above (suc k), greatest_after_removal k j ps high)

  -- each node, renumbered, has the entries that it had
  pub entries_after_insertion : (p : Node) → entries_at new (after_insertion j p) ≡ entries_at old p
  entries_after_insertion p = grind (arith, nat_tests, change.changed.below p.stretch, change.changed.above (suc p.stretch) p.stretch (omega arith))

  pub entries_after_removal : (p : Node) → (p.stretch ≡ j → p.number ≤ s.shared) → entries_at old (after_removal j p) ≡ entries_at new p
  entries_after_removal p own =
      let above = change.changed.above p.stretch (p.stretch - 1) in
      grind (arith, nat_tests, own, cases_order p.stretch j, change.changed.below p.stretch, above, change.here, change.changed.there, take_continued (list_before old j) s p.number)

-- a node with the same number and the same entries is within the new stretches
pub within_at : (old new : List Stretch) (p q : Node) → q.number ≡ p.number → entries_at new q ≡ entries_at old p → IsWithin old p → IsWithin new q
within_at old new p q same entries h =
    omega (arith, length-take q.number (stretch_list new q.stretch), ap length entries, length-take p.number (stretch_list old p.stretch), same, h)

-- A stretch gets or loses entries at its end

module _ (old new : List Stretch) (j : ℕ) (change : IsReplaced old new j) where
  pub nested_replaced : AreNested old → shared_at old j < length (stretch_list new j) → shared_at old (suc j) ≤ length (stretch_list new j) → length (stretch_list new j) ≤ MOST_STEPS
      → AreNested new
  nested_replaced rule some next few = grind (arith, nested_changed old new j 0 change.changed rule, change.shared, change.changed.above (suc j) (suc j))

  -- `AreFresh` stays if the list is as before up to its first own event, and begins with no later
  -- list up to that list's first own event
  fresh_replaced : AreFresh old → take (suc (shared_at old j)) (stretch_list old j) ≡ take (suc (shared_at old j)) (stretch_list new j)
      → ((k : ℕ) → j < k → k < length old → AgreesFor old k (suc (shared_at old k)) (events (stretch_list new j)) → ⊥) → AreFresh new
  fresh_replaced fresh opening later =
      fresh_changed old new j 0 change.changed fresh
      (λ m h a. fresh j m h change.inside (grind (arith, a, opening, change.shared, along_taken old new j j (suc (shared_at old j)))))
      (λ k h there a. later k (omega (arith, h)) there a)

  pub fresh_appended : AreNested old → AreFresh old → (rest : List Entry) (es : List Event) → stretch_list new j ≡ stretch_list old j ++ rest
      → events (stretch_list new j) ≡ es → AgreesFor old j (length (stretch_list old j)) es → IsDeepest old (length (stretch_list old j)) es → AreFresh new
  fresh_appended rule fresh rest es its all along deepest =
      fresh_replaced fresh (sym (ap (take (suc (shared_at old j))) its ∙ take-append-le (suc (shared_at old j)) (stretch_list old j) rest (omega (arith, rule.some j change.inside))))
      (λ k h l a. later_apart old rule fresh es j (length (stretch_list old j)) k h l along deepest
      (subst (λ (fs : List Event). AgreesFor old k (suc (shared_at old k)) fs) all a))

  pub fresh_cut : AreFresh old → (n : ℕ) → shared_at old j < n → stretch_list new j ≡ take n (stretch_list old j) → AreFresh new
  fresh_cut fresh n less its =
      let cut : events (stretch_list new j) ≡ take n (events (stretch_list old j)) = grind (arith, its, take-map (λ (x : Entry). x.event) n (stretch_list old j)) in
      fresh_replaced fresh (sym (ap (take (suc (shared_at old j))) its ∙ take-take (suc (shared_at old j)) n (stretch_list old j) (omega (arith, less))))
      (λ k h l a. fresh k j h l (grind (arith, a, cut, length-take n (events (stretch_list old j)), take-take (suc (shared_at old k)) n (events (stretch_list old j)))))

  pub needed_appended : (ps : List Node) (n : ℕ) → length (stretch_list new j) ≤ n → AreNeeded old ps → AreNeeded new (with_node ps j n)
  needed_appended ps n all needed i low h =
      let both = λ (k : ℕ). greatest-append k ps (record { stretch = j; number = n } ∷ []) in
      needed_changed old new j 0 change.changed ps (with_node ps j n) i h (λ k m. needed k (omega arith) m.inside) (grind (arith, nat_tests, both j, all)) (λ k m. grind (arith, m.node, both i))

  pub needed_cut : (ps : List Node) → length (stretch_list new j) ≤ needed_at old ps j → AreNeededFrom (suc j) old ps → AreNeededFrom j new ps
  needed_cut ps all needed i low h = grind (arith, needed_changed old new j 0 change.changed ps ps i h, needed, all, low, change.changed.above (suc j) (suc j))

  entries_replaced : (p : Node) → (p.stretch ≡ j → take p.number (stretch_list new j) ≡ take p.number (stretch_list old j)) → entries_at new p ≡ entries_at old p
  entries_replaced p own = grind (arith, own, cases_order p.stretch j, change.changed.below p.stretch, change.changed.above p.stretch p.stretch (omega arith))

  pub entries_appended : (rest : List Entry) → stretch_list new j ≡ stretch_list old j ++ rest → (p : Node) → IsWithin old p → entries_at new p ≡ entries_at old p
  entries_appended rest its p h = entries_replaced p (λ same. grind (arith, same, its, h, take-append-le))

  pub entries_cut : (n : ℕ) → stretch_list new j ≡ take n (stretch_list old j) → (p : Node) → (p.stretch ≡ j → p.number ≤ n) → entries_at new p ≡ entries_at old p
  entries_cut n its p own = entries_replaced p (λ same. ap (take p.number) its ∙ take-take p.number n (stretch_list old j) (own same))
