-- The contracts of adding entries to the stretches and of cutting a stretch.
use Rattle.rd_marks.proofs.Prelude.{◌≡◌, ℕ, zero, suc, ◌-◌, ◌<◌, ◌≤◌, ◌^◌, refl, sym, ap, ◌∙◌, subst, List, [], ◌∷◌, ◌++◌, length, take, drop, set, insert, remove, length-take, arith, drop-length, nat_tests, append-nil, map-append, map-id, take_all, MOST_STEPS, Entry, Node, Stretch, Shift, greatest_len_in_stretch, stretch_list, list_before, shared_at, entries_at, IsWithin, IsEnd, AgreesFor, IsDeepest, AreNested, AreFresh, CanShiftUp, IsGrown, IsShrunk, KeepsEntries, events, cases_order}
use Rattle.rd_marks.specs.declared.stretches.changes.Shift.TheVariants.{Same, Up, Down}
use Rattle.rd_marks.proofs.StretchLists.{own_at, shared_within, inserted_at, removed_at, appended_at, cut_at}
use Rattle.rd_marks.proofs.Fresh.{along_taken}
use Rattle.rd_marks.proofs.StretchChanges.{greatest-append, within_at, nested_inserted, nested_removed, fresh_inserted, fresh_removed, needed_inserted, needed_removed, entries_after_insertion, entries_after_removal, nested_replaced, fresh_appended, fresh_cut, needed_appended, needed_cut, entries_appended, entries_cut}
use Rattle.rd_marks.proofs.EntryLemmas.{joined_events}
use Rattle.rd_marks.proofs.Starting.{event_length, events_of_first, stretch_within}

-- if there are fewer than 2^64 stretches, every node is low
pub can_shift_up : (ss : List Stretch) → length ss < 2 ^ 64 → (p : Node) → IsWithin ss p → CanShiftUp p
can_shift_up ss few p within some = omega (arith, few, stretch_within ss p within some)

-- if the node has all entries already, nothing changes
pub unchanged_is_grown : (ss : List Stretch) (few : length ss < 2 ^ 64) (at : Node) (live : List Entry) → IsWithin ss at → at.number ≡ length live
    → IsGrown ss ss at live (record { node = at; shift = Same })
unchanged_is_grown ss few at live within all = record {
  within = within;
  put = sym (append-nil (entries_at ss at)) ∙ (λ i. entries_at ss at ++ (sym (drop-length live) ∙ ap (λ (n : ℕ). drop n live) (sym all)) i);
  low = can_shift_up ss few;
  stays = λ p is. record { within = is; same = refl };
  needed = λ nodes needed i low inside.
      omega (arith, needed i low inside, ap (greatest_len_in_stretch i) (ap (λ (ps : List Node). ps ++ at ∷ []) (map-id nodes)), greatest-append i nodes (at ∷ []));
}

-- the invariants of the new stretches, and what `IsGrown` states of them
pub record Grows (old new : List Stretch) (at : Node) (entries : List Entry) (shift : Shift) (node : Node) : Type 0 where
  pub nested : AreNested new
  pub fresh : AreFresh new
  pub grown : IsGrown old new at entries (record { node = node; shift = shift })

module _ (ss : List Stretch) (few : length ss < 2 ^ 64) (rule : AreNested ss) (fresh : AreFresh ss) (live : List Entry) (most : length live ≤ MOST_STEPS) (at : Node)
    (more : at.number < length live) (along : AgreesFor ss at.stretch at.number (events live)) (deepest : IsDeepest ss at.number (events live)) where
  -- a list of the node's entries and then the later live ones has the live events
  live_list : (xs : List Entry) → xs ≡ entries_at ss at ++ drop at.number live → (events xs ≡ events live) × (length xs ≡ length live)
  live_list xs its =
      let both = map-append (λ (x : Entry). x.event) (entries_at ss at) (drop at.number live) in
      let joined = joined_events at.number (events (stretch_list ss at.stretch)) live along.alike in
      let same : events xs ≡ events live = grind (arith, its, both, joined, events_of_first at.number (stretch_list ss at.stretch)) in
      (same, sym (event_length xs) ∙ ap length same ∙ event_length live)

  -- appending the entries to the stretch whose list ends at the node
  pub append_grows : IsEnd ss at → (t : Stretch) → t.shared ≡ shared_at ss at.stretch → t.entries.items ≡ own_at ss at.stretch ++ drop at.number live
      → Grows ss (set ss at.stretch t) at live Same (record { stretch = at.stretch; number = length live })
  append_grows end t shared its =
      let j = at.stretch in
      let n = at.number in
      let new = set ss j t in
      let rest = drop n live in
      let both = appended_at ss rule j end.there t shared rest its in
      let change = both.0 in
      let list = both.1 ∙ ap (λ (xs : List Entry). xs ++ rest) (sym (take_all n (stretch_list ss j) (omega (arith, end.all)))) in
      let lives = live_list (stretch_list new j) list in
      let long = lives.1 in
      let nested : AreNested new = grind (arith, most, more, long, end.all, rule.some j end.there, shared_within ss rule (suc j), nested_replaced ss new j change rule) in
      record {
        nested = nested;
        fresh =
            fresh_appended ss new j change rule fresh rest (events live) both.1 lives.0 (subst (λ (m : ℕ). AgreesFor ss j m (events live)) end.all along)
            (subst (λ (m : ℕ). IsDeepest ss m (events live)) end.all deepest);
        grown = record {
          within = omega (arith, long);
          put = take_all (length live) (stretch_list new j) (omega (arith, long)) ∙ list;
          low = can_shift_up ss few;
          stays = grind (arith, both, entries_appended ss new j change rest both.1, within_at);
          needed = λ nodes needed.
              rw (map-id nodes) (needed_appended ss new j change nodes (length live) (omega (arith, long)) needed);
        };
      }

  -- inserting a stretch with the entries, which shares those of the node
  pub insertion_grows : IsWithin ss at → (j : ℕ) → j ≤ length ss → (0 < length ss → 0 < j) → shared_at ss j ≤ at.number → at.number ≤ length (list_before ss j)
      → take at.number (list_before ss j) ≡ entries_at ss at → (s : Stretch) → s.shared ≡ at.number → s.entries.items ≡ drop at.number live
      → Grows ss (insert ss j s) at live (Up j) (record { stretch = j; number = length live })
  insertion_grows within j inside first less there begins s shared its =
      let n = at.number in
      let new = insert ss j s in
      let rest = drop n live in
      let change = inserted_at ss j s inside (omega (arith, shared, less)) (omega (arith, shared, there)) in
      let list : stretch_list new j ≡ entries_at ss at ++ rest =
      change.here.0 ∙ (λ i. take (shared i) (list_before ss j) ++ its i) ∙ ap (λ (xs : List Entry). xs ++ rest) begins in
      let lives = live_list (stretch_list new j) list in
      let long = lives.1 in
      let nested = nested_inserted ss new j s change rule (omega (arith, shared, more, long)) (omega (arith, most, long)) in
      record {
        nested = nested;
        fresh =
            before j first begins (λ k low on. fresh_inserted ss new j s change rule fresh k (events live) lives.0 low (subst (λ (m : ℕ). AgreesFor ss k m (events live)) (sym shared) on)
            (subst (λ (m : ℕ). IsDeepest ss m (events live)) (sym shared) deepest));
        grown = record {
          within = omega (arith, long);
          put = take_all (length live) (stretch_list new j) (omega (arith, long)) ∙ list;
          low = can_shift_up ss few;
          stays = grind (arith, nat_tests, entries_after_insertion ss new j s change, within_at);
          needed = λ nodes needed. needed_inserted ss new j s change nodes (length live) (omega (arith, long)) needed;
        };
      }
    where
      -- the list before the new stretch begins with the events of the node
      before : (j : ℕ) → (0 < length ss → 0 < j) → take at.number (list_before ss j) ≡ entries_at ss at
          → {X : Type 0} → ((k : ℕ) → (0 < length ss → k < j) → AgreesFor ss k at.number (events live) → X) → X
      before zero first begins go = go 0 (λ some. omega (arith, first some)) (none begins)
        where
          none : take at.number [] ≡ entries_at ss at → AgreesFor ss 0 at.number (events live)
          none h = along_taken ss ss 0 at.stretch at.number (events live) (grind arith) along
      before (suc k) first begins go = go k (λ some. omega arith) (along_taken ss ss k at.stretch at.number (events live) begins along)

-- the invariants of the new stretches, and what `IsShrunk` states of them
pub record Shrinks (old new : List Stretch) (i n : ℕ) (shift : Shift) : Type 0 where
  pub nested : AreNested new
  pub fresh : AreFresh new
  pub shrunk : IsShrunk old new i n shift

module _ (ss : List Stretch) (few : length ss < 2 ^ 64) (rule : AreNested ss) (fresh : AreFresh ss) (j : ℕ) (inside : j < length ss) where
  -- removing a stretch none of whose own entries is left
  pub removal_shrinks : (n : ℕ) → shared_at ss (suc j) ≤ n → n ≤ shared_at ss j → Shrinks ss (remove ss j) j n (Down j)
  removal_shrinks n next none =
      let found = removed_at ss j rule inside (omega (arith, next, none)) in
      let nested = nested_removed (remove ss j) ss j found.0 found.2 rule in
      record {
        nested = nested;
        fresh = fresh_removed (remove ss j) ss j found.0 found.2 fresh;
        shrunk = record {
          below = omega (arith, found.2.changed.count, inside);
          low = can_shift_up ss few;
          stays = grind (arith, found, entries_after_removal, within_at, nat_tests);
          needed = λ nodes needed its. needed_removed (remove ss j) ss j found.0 found.2 nodes needed;
        };
      }

  -- a stretch whose entries stay, in other room
  pub equal_stretch_keeps_entries : (t : Stretch) → t.shared ≡ shared_at ss j → t.entries.items ≡ own_at ss j → AreNested (set ss j t) × AreFresh (set ss j t) × KeepsEntries ss (set ss j t)
  equal_stretch_keeps_entries t shared its =
      let new = set ss j t in
      let both = appended_at ss rule j inside t shared [] (its ∙ sym (append-nil (own_at ss j))) in
      let change = both.0 in
      let list = both.1 ∙ append-nil (stretch_list ss j) in
      let all = list ∙ sym (take_all (length (stretch_list ss j)) (stretch_list ss j) (omega arith)) in
      let both_same : (i : ℕ) → (stretch_list new i ≡ stretch_list ss i) × (shared_at new i ≡ shared_at ss i) =
      (λ i. grind (arith, cases_order i j, list, change.shared, change.changed.below i, change.changed.above i i)) in
      let nested : AreNested new = grind (arith, rule.some j inside, rule.few j inside, shared_within ss rule (suc j), list, nested_replaced ss new j change rule) in
      (nested, fresh_cut ss new j change fresh (length (stretch_list ss j)) (rule.some j inside) all, grind (arith, within_at))

  -- cutting a stretch some of whose own entries are left
  pub cut_shrinks : (n : ℕ) → shared_at ss (suc j) ≤ n → shared_at ss j < n → (t : Stretch) → t.shared ≡ shared_at ss j → t.entries.items ≡ take (n - shared_at ss j) (own_at ss j) → Shrinks ss (set ss j t) j n Same
  cut_shrinks n next some t shared its =
      let new = set ss j t in
      let both = cut_at ss rule j inside t shared n (omega (arith, some)) next its in
      let change = both.0 in
      let long = ap length both.1 ∙ length-take n (stretch_list ss j) in
      let nested : AreNested new = grind (arith, some, next, long, rule.some j inside, rule.few j inside, shared_within ss rule (suc j), nested_replaced ss new j change rule) in
      record {
        nested = nested;
        fresh = fresh_cut ss new j change fresh n some both.1;
        shrunk = record {
          below = omega (arith, change.changed.count, inside);
          low = can_shift_up ss few;
          stays = grind (arith, both, entries_cut, within_at);
          needed = λ nodes needed its. rw (map-id nodes) (needed_cut ss new j change nodes (omega (arith, long, its)) needed);
        };
      }
