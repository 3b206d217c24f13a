-- The lists of stretches: how each one continues the list before it, and which stay the same if a
-- stretch is inserted, removed or changed.
use Rattle.rd_marks.proofs.Prelude.{◌≡◌, ℕ, zero, suc, ◌+◌, ◌-◌, ◌<◌, ◌≤◌, refl, sym, ap, ◌∙◌, subst, List, [], ◌∷◌, ◌++◌, length, take, drop, get_or, set, insert, remove, length-append, length-set, arith, take-append-add, drop-append-add, cases_lt, cases_eq, append_assoc, take-append-le, take-take, length-take-le, Entry, Stretch, continued, list_from, stretch_list, list_before, shared_at, AreNested, get_or-set_same, get_or-set_other}
use Rattle.std.proofs.lemmas.List.Edits.{length-insert}

-- the entries that the i-th stretch keeps itself; empty if there is no i-th stretch
abbrev pub own_at : List Stretch → ℕ → List Entry
own_at [] i = []
own_at (s ∷ ss) zero = s.entries.items
own_at (s ∷ ss) (suc i) = own_at ss i

-- the list before the i-th stretch, where x is the list before the first one
abbrev list_before_from : List Entry → List Stretch → ℕ → List Entry
list_before_from x ss zero = x
list_before_from x ss (suc i) = list_from x ss i

list_before_from_continued : (x : List Entry) (s : Stretch) (ss : List Stretch) (i : ℕ) → list_before_from (continued x s) ss i ≡ list_from x (s ∷ ss) i
list_before_from_continued x s ss i = grind arith

list_before_from_nil : (ss : List Stretch) (i : ℕ) → list_before_from [] ss i ≡ list_before ss i
list_before_from_nil ss i = grind arith

splits_after : (x : List Entry) (ss : List Stretch) (i : ℕ) → list_from x ss i ≡ take (shared_at ss i) (list_before_from x ss i) ++ own_at ss i
splits_after x [] i = refl
splits_after x (s ∷ ss) zero = refl
splits_after x (s ∷ ss) (suc i) = splits_after (continued x s) ss i ∙ ap (λ (y : List Entry). take (shared_at ss i) y ++ own_at ss i) (list_before_from_continued x s ss i)

pub splits : (ss : List Stretch) (i : ℕ) → stretch_list ss i ≡ take (shared_at ss i) (list_before ss i) ++ own_at ss i
splits ss i = splits_after [] ss i ∙ ap (λ (y : List Entry). take (shared_at ss i) y ++ own_at ss i) (list_before_from_nil ss i)

pub stretch_there : (ss : List Stretch) (i : ℕ) (d : Stretch) → i < length ss → (shared_at ss i ≡ (get_or ss i d).shared) × (own_at ss i ≡ (get_or ss i d).entries.items)
stretch_there [] i d h = absurd (omega (arith, h))
stretch_there (s ∷ ss) zero d h = (refl, refl)
stretch_there (s ∷ ss) (suc i) d h = stretch_there ss i d (omega (arith, h))

pub shared_past : (ss : List Stretch) (i : ℕ) → length ss ≤ i → shared_at ss i ≡ 0
shared_past [] i h = refl
shared_past (s ∷ ss) zero h = absurd (omega (arith, h))
shared_past (s ∷ ss) (suc i) h = shared_past ss i (omega (arith, h))

past_after : (x : List Entry) (ss : List Stretch) (i : ℕ) → length ss ≤ i → list_from x ss i ≡ []
past_after x [] i h = refl
past_after x (s ∷ ss) zero h = absurd (omega (arith, h))
past_after x (s ∷ ss) (suc i) h = past_after (continued x s) ss i (omega (arith, h))

-- after the last stretch, the list is empty
pub list_past : (ss : List Stretch) (i : ℕ) → length ss ≤ i → stretch_list ss i ≡ []
list_past ss i h = past_after [] ss i h

module _ (ss : List Stretch) (rule : AreNested ss) where
  pub shared_within : (i : ℕ) → shared_at ss i ≤ length (list_before ss i)
  shared_within i = grind (arith, cases_lt i (length ss), rule.within i, shared_past ss i)

  front_length : (i : ℕ) → length (take (shared_at ss i) (list_before ss i)) ≡ shared_at ss i
  front_length i = length-take-le (shared_at ss i) (list_before ss i) (shared_within i)

  pub total : (i : ℕ) → length (stretch_list ss i) ≡ shared_at ss i + length (own_at ss i)
  total i = omega (arith, ap length (splits ss i), length-append (take (shared_at ss i) (list_before ss i)) (own_at ss i), front_length i)

  -- the first entries, up to the number that is shared, are those of the list before
  pub begins_shared : (i n : ℕ) → n ≤ shared_at ss i → take n (stretch_list ss i) ≡ take n (list_before ss i)
  begins_shared i n h =
      grind (arith, h, splits ss i, front_length i, take-append-le n (take (shared_at ss i) (list_before ss i)) (own_at ss i), take-take n (shared_at ss i) (list_before ss i))

  -- the entries after the shared ones are the stretch's own
  pub behind_shared : (i n : ℕ) → shared_at ss i ≤ n → drop n (stretch_list ss i) ≡ drop (n - shared_at ss i) (own_at ss i)
  behind_shared i n h =
      grind (arith, h, splits ss i, front_length i, drop-append-add (take (shared_at ss i) (list_before ss i)) (own_at ss i) (n - shared_at ss i))

  -- two lists begin with the same n entries if all stretches after the first one, up to the second,
  -- share at least n
  pub shared_entries : (i m n : ℕ) → i ≤ m → ((k : ℕ) → i < k → k ≤ m → n ≤ shared_at ss k) → take n (stretch_list ss m) ≡ take n (stretch_list ss i)
  shared_entries i zero n h all = let same : 0 ≡ i = omega (arith, h) in ap (λ (k : ℕ). take n (stretch_list ss k)) same
  shared_entries i (suc m) n h all =
      let earlier = λ (low : i ≤ m). shared_entries i m n low (λ k low high. all k low (omega (arith, high))) in
      grind (arith, cases_eq (suc m) i, all (suc m), begins_shared (suc m) n, earlier)

-- Changing a list only after the entries that the next stretch shares changes no later list

pub lists_common : (ss : List Stretch) (x y : List Entry) (i : ℕ) → take (shared_at ss 0) x ≡ take (shared_at ss 0) y → list_from x ss i ≡ list_from y ss i
lists_common [] x y i h = refl
lists_common (s ∷ ss) x y zero h = ap (λ (z : List Entry). z ++ s.entries.items) h
lists_common (s ∷ ss) x y (suc i) h = ap (λ (z : List Entry). list_from (z ++ s.entries.items) ss i) h

pub take_continued : (x : List Entry) (s : Stretch) (n : ℕ) → n ≤ s.shared → s.shared ≤ length x → take n (continued x s) ≡ take n x
take_continued x s n h there = grind (arith, take-append-le, length-take-le, take-take)

-- A stretch is inserted or changed

-- the new stretches are the old ones except at number j. There one was inserted (`more` is 1), or
-- one stands for the old one (`more` is 0). It shares no fewer entries than the old one there, and
-- no more than the list before it has
pub record IsChanged (old new : List Stretch) (j more : ℕ) : Type 0 where
  pub small : more ≤ 1
  pub count : length new ≡ more + length old
  pub within : j ≤ length old
  pub less : shared_at old j ≤ shared_at new j
  pub there : shared_at new j ≤ length (list_before old j)
  pub below : (i : ℕ) → i < j → (stretch_list new i ≡ stretch_list old i) × (shared_at new i ≡ shared_at old i)
  pub above : (i k : ℕ) → i ≡ more + k → j < i → (stretch_list new i ≡ stretch_list old k) × (shared_at new i ≡ shared_at old k)

-- stretch s was inserted with number j
pub record IsInserted (old new : List Stretch) (j : ℕ) (s : Stretch) : Type 0 where
  pub changed : IsChanged old new j 1
  pub here : (stretch_list new j ≡ continued (list_before old j) s) × (shared_at new j ≡ s.shared)

-- the j-th stretch was replaced by one that shares as many entries
pub record IsReplaced (old new : List Stretch) (j : ℕ) : Type 0 where
  pub changed : IsChanged old new j 0
  pub inside : j < length old
  pub shared : shared_at new j ≡ shared_at old j

below_inserted : (x : List Entry) (ss : List Stretch) (j : ℕ) (s : Stretch) (i : ℕ) → i < j → j ≤ length ss
    → (list_from x (insert ss j s) i ≡ list_from x ss i) × (shared_at (insert ss j s) i ≡ shared_at ss i)
below_inserted x ss zero s i h k = absurd (omega (arith, h))
below_inserted x [] (suc j) s i h k = absurd (omega (arith, k))
below_inserted x (r ∷ ss) (suc j) s zero h k = (refl, refl)
below_inserted x (r ∷ ss) (suc j) s (suc i) h k = below_inserted (continued x r) ss j s i (omega (arith, h)) (omega (arith, k))

here_inserted : (x : List Entry) (ss : List Stretch) (j : ℕ) (s : Stretch) → j ≤ length ss
    → (list_from x (insert ss j s) j ≡ continued (list_before_from x ss j) s) × (shared_at (insert ss j s) j ≡ s.shared)
here_inserted x ss zero s k = (refl, refl)
here_inserted x [] (suc j) s k = absurd (omega (arith, k))
here_inserted x (r ∷ ss) (suc j) s k = grind (arith, list_before_from_continued, here_inserted (continued x r) ss j s (omega (arith, k)))

above_inserted : (x : List Entry) (ss : List Stretch) (j : ℕ) (s : Stretch) (i : ℕ) → j ≤ i → j ≤ length ss → shared_at ss j ≤ s.shared → s.shared ≤ length (list_before_from x ss j)
    → (list_from x (insert ss j s) (suc i) ≡ list_from x ss i) × (shared_at (insert ss j s) (suc i) ≡ shared_at ss i)
above_inserted x ss zero s i h k less there = (lists_common ss (continued x s) x i (take_continued x s (shared_at ss 0) less there), refl)
above_inserted x [] (suc j) s i h k less there = absurd (omega (arith, k))
above_inserted x (r ∷ ss) (suc j) s zero h k less there = absurd (omega (arith, h))
above_inserted x (r ∷ ss) (suc j) s (suc i) h k less there =
    above_inserted (continued x r) ss j s i (omega (arith, h)) (omega (arith, k)) less (subst (λ (y : List Entry). s.shared ≤ length y) (sym (list_before_from_continued x r ss j)) there)

pub inserted_at : (ss : List Stretch) (j : ℕ) (s : Stretch) → j ≤ length ss → shared_at ss j ≤ s.shared → s.shared ≤ length (list_before ss j) → IsInserted ss (insert ss j s) j s
inserted_at ss j s within less there = grind (arith, length-insert, list_before_from_nil, here_inserted [] ss j s, above_inserted [] ss j s, below_inserted [] ss j s)

-- A stretch is removed

-- inserting the removed stretch again gives back the stretches
insert_removed : (ss : List Stretch) (j : ℕ) → j < length ss → (s : Stretch) × (insert (remove ss j) j s ≡ ss) × (s.shared ≡ shared_at ss j)
insert_removed [] j h = absurd (omega (arith, h))
insert_removed (s ∷ ss) zero h = (s, refl, refl)
insert_removed (r ∷ ss) (suc j) h =
    let rest = insert_removed ss j (omega (arith, h)) in
    (rest.0, ap (λ (rs : List Stretch). r ∷ rs) rest.1, rest.2)

here_removed : (x : List Entry) (ss : List Stretch) (j : ℕ) → j < length ss
    → (list_before_from x (remove ss j) j ≡ list_before_from x ss j) × (shared_at (remove ss j) j ≡ shared_at ss (suc j)) × (suc (length (remove ss j)) ≡ length ss)
here_removed x [] j h = absurd (omega (arith, h))
here_removed x (s ∷ ss) zero h = (refl, refl, refl)
here_removed x (r ∷ ss) (suc j) h = grind (arith, list_before_from_continued, remove, here_removed (continued x r) ss j (omega (arith, h)))

-- the old stretches are those that are left, with the removed one inserted
pub removed_at : (ss : List Stretch) (j : ℕ) → AreNested ss → j < length ss → shared_at ss (suc j) ≤ shared_at ss j
    → (s : Stretch) × (s.shared ≡ shared_at ss j) × IsInserted (remove ss j) ss j s
removed_at ss j rule h less =
    let back = insert_removed ss j h in
    let left = here_removed [] ss j h in
    let its : IsInserted (remove ss j) (insert (remove ss j) j back.0) j back.0 =
    grind (arith, back.2, left, h, less, list_before_from_nil (remove ss j) j, list_before_from_nil ss j, shared_within ss rule j, inserted_at (remove ss j) j back.0) in
    (back.0, back.2, rw back.1 at its)

shared_replaced : (ss : List Stretch) (j : ℕ) (t : Stretch) (i : ℕ) → t.shared ≡ shared_at ss j → shared_at (set ss j t) i ≡ shared_at ss i
shared_replaced ss j t i h =
    let were = stretch_there ss i t in
    let are = stretch_there (set ss j t) i t in
    grind (arith, h, cases_lt i (length ss), cases_eq i j, were, are, shared_past ss i, shared_past (set ss j t) i, get_or-set_same, get_or-set_other, length-set)

others_replaced : (x : List Entry) (ss : List Stretch) (j : ℕ) (t : Stretch) (i : ℕ) → (i ≡ j → ⊥)
    → take (shared_at ss (suc j)) (continued (list_before_from x ss j) t) ≡ take (shared_at ss (suc j)) (list_from x ss j) → list_from x (set ss j t) i ≡ list_from x ss i
others_replaced x [] j t i apart h = refl
others_replaced x (s ∷ ss) zero t zero apart h = absurd (apart refl)
others_replaced x (s ∷ ss) zero t (suc i) apart h = lists_common ss (continued x t) (continued x s) i h
others_replaced x (s ∷ ss) (suc j) t zero apart h = refl
others_replaced x (s ∷ ss) (suc j) t (suc i) apart h =
    others_replaced (continued x s) ss j t i (λ same. apart (ap suc same)) (ap (λ (y : List Entry). take (shared_at ss (suc j)) (continued y t)) (list_before_from_continued x s ss j) ∙ h)

here_replaced : (x : List Entry) (ss : List Stretch) (j : ℕ) (t : Stretch) → j < length ss → list_from x (set ss j t) j ≡ continued (list_before_from x ss j) t
here_replaced x [] j t h = absurd (omega (arith, h))
here_replaced x (s ∷ ss) zero t h = refl
here_replaced x (s ∷ ss) (suc j) t h = here_replaced (continued x s) ss j t (omega (arith, h)) ∙ ap (λ (y : List Entry). continued y t) (list_before_from_continued x s ss j)

module _ (ss : List Stretch) (rule : AreNested ss) (j : ℕ) (h : j < length ss) (t : Stretch) (shared : t.shared ≡ shared_at ss j) where
  replaced_at : (ys : List Entry) → continued (list_before ss j) t ≡ ys → take (shared_at ss (suc j)) ys ≡ take (shared_at ss (suc j)) (stretch_list ss j)
      → IsReplaced ss (set ss j t) j × (stretch_list (set ss j t) j ≡ ys)
  replaced_at ys its same = grind (arith, shared_replaced, length-set, here_replaced, list_before_from_nil, set, others_replaced)

  -- if entries are appended to a stretch's own, they are appended to its list
  pub appended_at : (rest : List Entry) → t.entries.items ≡ own_at ss j ++ rest → IsReplaced ss (set ss j t) j × (stretch_list (set ss j t) j ≡ stretch_list ss j ++ rest)
  appended_at rest its =
      replaced_at (stretch_list ss j ++ rest) (cc (splits ss j, append_assoc (take (shared_at ss j) (list_before ss j)) (own_at ss j) rest))
      (take-append-le (shared_at ss (suc j)) (stretch_list ss j) rest (shared_within ss rule (suc j)))

  -- if a stretch's own entries are cut, so is its list
  pub cut_at : (n : ℕ) → shared_at ss j ≤ n → shared_at ss (suc j) ≤ n → t.entries.items ≡ take (n - shared_at ss j) (own_at ss j)
      → IsReplaced ss (set ss j t) j × (stretch_list (set ss j t) j ≡ take n (stretch_list ss j))
  cut_at n less next its =
      let both = take-append-add (take (shared_at ss j) (list_before ss j)) (own_at ss j) (n - shared_at ss j) in
      replaced_at (take n (stretch_list ss j)) (grind (arith, less, shared, its, splits ss j, front_length ss rule j, both))
      (take-take (shared_at ss (suc j)) n (stretch_list ss j) next)
