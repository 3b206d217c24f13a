-- Which stretches' lists begin alike, and how far the stretches can be followed along events.
use Rattle.rd_marks.proofs.Prelude.{◌≡◌, ◌⊎◌, ℕ, zero, suc, ◌<◌, ◌≤◌, refl, sym, ap, ◌∙◌, List, length, take, length-take, arith, cases_eq, length-map, take-take, take-map, Event, Stretch, stretch_list, shared_at, AreNested, AreFresh, AgreesFor, IsDeepest, events}
use Rattle.rd_marks.proofs.Starting.{event_length}
use Rattle.rd_marks.proofs.StretchLists.{list_past, begins_shared, shared_entries}

-- Lists that begin with given events

pub along_within : (ss : List Stretch) (i n : ℕ) (es : List Event) → AgreesFor ss i n es → n ≤ length (stretch_list ss i)
along_within ss i n es a = omega (arith, length-take n (events (stretch_list ss i)), ap length a.alike, length-take n es, event_length (stretch_list ss i), a.enough)

pub along_less : (ss : List Stretch) (i m n : ℕ) (es : List Event) → m ≤ n → AgreesFor ss i n es → AgreesFor ss i m es
along_less ss i m n es h a =
    record { enough = omega (arith, h, a.enough); alike = sym (take-take m n (events (stretch_list ss i)) h) ∙ ap (take m) a.alike ∙ take-take m n es h }

-- if a list begins with n of these events, so does each list with the same first n entries
pub along_taken : (ss rs : List Stretch) (i m n : ℕ) (es : List Event) → take n (stretch_list ss i) ≡ take n (stretch_list rs m) → AgreesFor rs m n es → AgreesFor ss i n es
along_taken ss rs i m n es same a = grind (arith, take-map)

pub along_itself : (ss : List Stretch) (i n : ℕ) → n ≤ length (stretch_list ss i) → AgreesFor ss i n (events (stretch_list ss i))
along_itself ss i n h = let its = event_length (stretch_list ss i) in record { enough = omega (arith, its, h); alike = refl }

-- if two lists begin with n of the same events, each begins with n events of the other
pub along_both : (ss rs : List Stretch) (i m n : ℕ) (es : List Event) → AgreesFor ss i n es → AgreesFor rs m n es → AgreesFor ss i n (events (stretch_list rs m))
along_both ss rs i m n es a b = grind (arith, length-map, along_within)

module _ (ss : List Stretch) (rule : AreNested ss) (fresh : AreFresh ss) where
  pub not_both : (i j n : ℕ) (es : List Event) → j < i → i < length ss → shared_at ss i < n → AgreesFor ss i n es → AgreesFor ss j n es → ⊥
  not_both i j n es h k less a b =
      let d = suc (shared_at ss i) in
      fresh i j h k (along_both ss ss i j d es (along_less ss i d n es (omega (arith, less)) a) (along_less ss j d n es (omega (arith, less)) b))

  -- if the lists of two stretches begin with n of the same events, each stretch between them, and
  -- the later one, shares at least n
  pub between : (i m n : ℕ) (es : List Event) → m < length ss → AgreesFor ss i n es → AgreesFor ss m n es → (k : ℕ) → i < k → k ≤ m → n ≤ shared_at ss k
  between i zero n es h a b k low high = absurd (omega (arith, low, high))
  between i (suc m) n es h a b k low high =
      let last : n ≤ shared_at ss (suc m) = grind (arith, not_both (suc m) i n es (omega (arith, low, high)) h, a, b) in
      grind (arith, last, between i m n es (omega (arith, h)) a (along_taken ss ss m (suc m) n es (sym (begins_shared ss rule (suc m) n last)) b) k low)

-- Following the stretches along events

-- the search has passed all stretches below k. The list of stretch `at` begins with n of the
-- events, each later stretch that it passed shares at least n, and no list that it passed begins
-- with n + 1
pub record Follows (ss : List Stretch) (es : List Event) (k at n : ℕ) : Type 0 where
  pub along : AgreesFor ss at n es
  pub shared : (j : ℕ) → at < j → j < k → n ≤ shared_at ss j
  pub none : (j : ℕ) → j < k → AgreesFor ss j (suc n) es → ⊥

module _ (ss : List Stretch) (rule : AreNested ss) (fresh : AreFresh ss) (es : List Event) where
  -- the search may begin in the first stretch, or in one that has the last of these entries itself
  pub follows_start : (at n : ℕ) → (0 < at → shared_at ss at < n) → AgreesFor ss at n es → Follows ss es at at n
  follows_start at n owned a = record {
    along = a;
    shared = λ j low high. absurd (omega (arith, low, high));
    none = λ j h b. grind (arith, owned, h, b, a, not_both ss rule fresh at j n es, along_less ss j n (suc n) es, list_past ss at, along_within ss at n es);
  }

  -- if stretch k shares at least n, or is the current one, its list begins with n of the events
  pub follows_here : (k at n : ℕ) → Follows ss es k at n → at ≤ k → (at ≡ k) ⊎ (n ≤ shared_at ss k) → AgreesFor ss k n es
  follows_here k at n f h here = grind (arith, here, f.along, along_taken ss ss k at n es, shared_entries ss rule at k n h, f.shared)

  -- a stretch that shares more than n can be skipped
  pub follows_skipped : (k at n : ℕ) → Follows ss es k at n → at < k → n < shared_at ss k → Follows ss es (suc k) at n
  follows_skipped zero at n f h less = absurd (omega (arith, h))
  follows_skipped (suc k) at n f h less = record {
    along = f.along;
    shared = λ j low high. grind (arith, less, f.shared j low);
    none = λ j high a. grind (arith, less, high, a, begins_shared ss rule (suc k) (suc n), cases_eq j (suc k), f.none j, f.none k, along_taken ss ss k (suc k) (suc n) es);
  }

  -- if the list of stretch k begins with m of the events, and not with m + 1, the search goes on
  -- with m there
  pub follows_compared : (k at n m : ℕ) → Follows ss es k at n → n ≤ m → AgreesFor ss k m es → (AgreesFor ss k (suc m) es → ⊥) → Follows ss es (suc k) k m
  follows_compared k at n m f h a most = record {
    along = a;
    shared = λ j low high. absurd (omega (arith, low, high));
    none = λ j high b. grind (arith, f.none j, most, along_less ss j (suc n) (suc m) es, cases_eq j k);
  }

  -- at the last stretch, or at one that shares fewer than n, the search is complete
  pub follows_stopped : (k at n : ℕ) → Follows ss es k at n → (k < length ss → (at < k) × (shared_at ss k < n)) → IsDeepest ss n es
  follows_stopped k at n f stop j h a =
      grind (arith, f.none j, stop, between ss rule fresh at j n es h f.along (along_less ss j n (suc n) es (omega arith) a) k)

  -- no list of a stretch after `at` agrees with these events up to its first own event
  pub later_apart : (at n k : ℕ) → at < k → k < length ss → AgreesFor ss at n es → IsDeepest ss n es → AgreesFor ss k (suc (shared_at ss k)) es → ⊥
  later_apart at n k h inside a deepest b =
      let d = suc (shared_at ss k) in
      grind (arith, not_both ss rule fresh k at d es h inside (omega arith) b, along_less ss at d n es, deepest k inside, along_less ss k (suc n) d es)
