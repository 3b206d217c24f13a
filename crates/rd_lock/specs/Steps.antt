-- What a step changes in the view of the seat that makes it, for each kind of step.
--
-- kind  relation      word    what changes in the maker's view
-- 1     LoadsNext     next    next := n
-- 2     Draws         next    next := n + 1, and it waits with ticket n; if the draw is lost, as 1
-- 2     Tries         next    next := n + 1, and it holds by ticket n; if the draw is lost, as 1
-- 3     LoadsServed   served  served := n, and next is raised to n if it is less
-- 3     Polls         served  the same, and it holds if n is its ticket
-- 6     Releases      served  served := n + 1, seen := what it put, and it is out
--
-- Kinds 4 and 5 move the value, and 7 and 8 join and split seats: `src/tickets.rt`, `src/plays.rt`.
--
-- A relation takes the maker before the step (`m`), the value of the word before it (`n`) and the
-- maker after it (`m'`). A maker is a seat: its view (`.0`), and the slots that it has taken, each
-- with its content (`.1`). By `newest`, no member knew of a greater value than n.
use Rattle.std.specs.Prelude.{◌≡◌, ◌≢◌, ℕ, ◌+◌, ◌^◌, ◌≤◌, max, List, [], ◌∷◌, map, Option, Some}
use Rattle.atomic_table.specs.Table.{Me}
use Rattle.rd_lock.specs.declared.views.PassView.{PassView}
use Rattle.rd_lock.specs.declared.views.View.{View}
use Rattle.rd_lock.specs.declared.views.Stage.{Stage}
use Rattle.rd_lock.specs.declared.views.Stage.TheVariants.{Out, Waits, Holds}
use Rattle.rd_lock.specs.Lists.{Pairwise, AreComparable}
use Rattle.rd_lock.specs.Histories.{Continues}
use Rattle.std.specs.List.{AllByRecursion}
use Rattle.rd_lock.specs.Rule.{view_of}

module _ {E O : Type 0} where
  -- what the pass knows after it has seen n in the word `next`
  abbrev pub with_next_seen : ℕ → PassView E O → PassView E O
  with_next_seen n p = record p { next = n }

  -- what the pass knows after it has seen n in the word `served`, and so a `next` of at least n
  abbrev pub with_served_seen : ℕ → PassView E O → PassView E O
  with_served_seen n p = record p { next = max p.next n; served = n }

  -- what the pass knows after it has put a value with this history back, and the word `served`
  -- became n
  abbrev pub with_put : List (ℕ × E) → ℕ → PassView E O → PassView E O
  with_put log n p = record p { seen = log; served = n }

  -- the view after its members have seen n in the word `next` and its seat has gone to this stage
  abbrev pub after_next : ℕ → Stage E → View E O → View E O
  after_next n stage v = view_of (map (with_next_seen n) v.members) stage

  -- the view after its members have seen n in the word `served` and its seat has gone to this stage
  abbrev pub after_served : ℕ → Stage E → View E O → View E O
  after_served n stage v = view_of (map (with_served_seen n) v.members) stage

  -- n is at most 2^63, and no member knows of a greater value of `next`
  abbrev pub IsNewestNext : ℕ → View E O → Type 0
  IsNewestNext n v = (n ≤ 2 ^ 63) × AllByRecursion (λ (p : PassView E O). p.next ≤ n) v.members

  -- n is at most 2^63, no member has seen a greater value of `served`, and none knows of a value of
  -- `next` above 2^63
  abbrev pub IsNewestServed : ℕ → View E O → Type 0
  IsNewestServed n v = (n ≤ 2 ^ 63) × AllByRecursion (λ (p : PassView E O). (p.served ≤ n) × (p.next ≤ 2 ^ 63)) v.members

module _ {T E O : Type 0} where
  -- a load of the word `next`, which had the value n: no member knew of a greater one, and each now
  -- knows of n
  pub record LoadsNext (m : Me (Option T) (View E O)) (n : ℕ) (m' : Me (Option T) (View E O)) : Type 0 where
    pub newest : IsNewestNext n m.0
    pub after : m' ≡ (after_next n m.0.stage m.0, m.1)

  -- a draw in `take`, which expects the ticket that the pass found before. If `next` had that value
  -- n, the pass now waits with ticket n, and has seen n + 1 in `next`; if not, it has only seen n
  -- there
  pub record Draws (expected : ℕ) (m : Me (Option T) (View E O)) (n : ℕ) (m' : Me (Option T) (View E O)) : Type 0 where
    pub newest : IsNewestNext n m.0
    pub won : n ≡ expected → m' ≡ (after_next (n + 1) (Waits n) m.0, m.1)
    pub lost : n ≢ expected → m' ≡ (after_next n m.0.stage m.0, m.1)

  -- a load of the word `served`, which had the value n, by a seat that doesn't wait: no member had
  -- seen a greater one, and each has now seen n. Of what any two members have seen, one is a
  -- beginning of the other
  pub record LoadsServed (m : Me (Option T) (View E O)) (n : ℕ) (m' : Me (Option T) (View E O)) : Type 0 where
    pub newest : IsNewestServed n m.0
    pub after : m' ≡ (after_served n m.0.stage m.0, m.1)
    pub order : Pairwise (λ (p q : PassView E O). AreComparable p.seen q.seen) m.0.members

  module _ (history : T → List (ℕ × E)) (origin : T → O) where
    -- the value has the origin that the pass knows, and its history is what the pass has seen,
    -- followed by entries of other passes only
    abbrev pub IsFound : T → PassView E O → Type 0
    IsFound x p = (origin x ≡ p.origin) × Continues p.pass p.seen (history x)

    -- a draw in `try_take`, which expects the ticket that the pass saw served. If `next` had that
    -- value n, the pass now holds the value by ticket n, and has seen n + 1 in `next`; if not,
    -- which never happens in a lock of one seat, it has only seen n there
    pub record Tries (expected : ℕ) (m : Me (Option T) (View E O)) (n : ℕ) (m' : Me (Option T) (View E O)) : Type 0 where
      pub newest : IsNewestNext n m.0
      pub won : n ≡ expected → (x : T) × AllByRecursion (IsFound x) m.0.members × (m' ≡ (after_next (n + 1) (Holds n (history x)) m.0, (0, Some x) ∷ m.1))
      pub lost : n ≢ expected → AllByRecursion (λ (p : PassView E O). p.seats ≢ 1) m.0.members × (m' ≡ (after_next n m.0.stage m.0, m.1))

    -- a load of the word `served`, which had the value n, by a seat that waits. If n is its ticket,
    -- the seat now holds the value by it; if not, it has only seen n
    pub record Polls (m : Me (Option T) (View E O)) (n : ℕ) (m' : Me (Option T) (View E O)) : Type 0 where
      pub newest : IsNewestServed n m.0
      pub served : m.0.stage ≡ Waits n → (x : T) × AllByRecursion (IsFound x) m.0.members × (m' ≡ (after_served n (Holds n (history x)) m.0, (0, Some x) ∷ m.1))
      pub waits : m.0.stage ≢ Waits n → m' ≡ (after_served n m.0.stage m.0, m.1)

    -- the release, which adds one to the word `served` and gives the value back. The seat held, and
    -- the history that it found continues what its member had seen. Now it is out, and its member
    -- has seen the history of the value that it gave back
    pub record Releases (m : Me (Option T) (View E O)) (n : ℕ) (m' : Me (Option T) (View E O)) : Type 0 where
      pub newest : IsNewestServed n m.0
      pub found : (t : ℕ) × (log : List (ℕ × E)) × (m.0.stage ≡ Holds t log) × AllByRecursion (λ (p : PassView E O). Continues p.pass p.seen log) m.0.members
      pub after : (x : T) × (m.1 ≡ (0, Some x) ∷ []) × (m' ≡ (view_of (map (with_put (history x) (n + 1)) m.0.members) Out, []))
