-- What contracts state of opening and of closing a lock.
use Rattle.std.specs.Prelude.{◌≡◌, ℕ, ◌^◌, ◌≤◌, List, [], map, Option, Some}
use mathlib.Core.Option.{some}
use lib.ListN.{get_elem?}
use Rattle.rd_lock.specs.declared.views.PassView.{PassView}
use Rattle.rd_lock.specs.declared.views.Recorded.{Ghosts}
use Rattle.rd_lock.specs.declared.passes.Pass.{Pass}
use Rattle.rd_lock.specs.declared.tickets.Busy.{Busy}
use Rattle.rd_lock.specs.declared.locks.TicketLock.{TicketLock}
use Rattle.rd_lock.specs.Lists.{HasAllUpTo, numbers_from}
use Rattle.rd_lock.specs.Histories.{Continues, NamesUpTo}
use Rattle.rd_lock.specs.Rule.{Lock, pass_numbers}
use Rattle.std.specs.List.{AllByRecursion}
use Rattle.rd_lock.specs.Locks.{number, seen, next_seen, served_seen, seats, opened_origin, IsOut, IsPassOf}

module _ {T E O : Type 0} (lock : Lock T E O) where
  -- the last state of a lock that was closed with these members, all of them out
  pub record IsEnded (ps : List (PassView E O)) (served next : ℕ) (slot : Option T) : Type 0 where
    -- the words are in order, and at most 2^63
    pub order : served ≤ next
    pub limit : next ≤ 2 ^ 63
    -- no member has seen greater words
    pub newest : AllByRecursion (λ (p : PassView E O). (p.next ≤ next) × (p.served ≤ served)) ps
    -- equal words leave the value in the slot, with the lock's origin and a history that names only
    -- passes of the lock and continues what each member had seen
    pub value : served ≡ next → (x : T) × (slot ≡ Some x) × (lock.origin x ≡ lock.root) × NamesUpTo lock.seats (lock.history x) × AllByRecursion (λ (p : PassView E O). Continues p.pass p.seen (lock.history x)) ps
    -- with all passes as members, the words are equal
    pub all : HasAllUpTo lock.seats (pass_numbers ps) → served ≡ next

  -- a table closed with these members, and left with these words and slots, is in such a state:
  -- `served` is word 0, `next` is word 1, and `slot` is slot 0. If one of the three is missing,
  -- nothing is stated
  abbrev pub IsEndedWith : List (PassView E O) → List ℕ → List (Option T) → Type 0
  IsEndedWith ps ws xs = (served next : ℕ) (slot : Option T) → get_elem? ws 0 ≡ some served → get_elem? ws 1 ≡ some next → get_elem? xs 0 ≡ some slot → IsEnded ps served next slot

module _ {T E O : Type 0} {K : Ghosts T E O} where
  -- the pass is one of this lock, and as it was when the lock was opened with both words at
  -- `first`: it is out, has seen no history, and knows the words as they began
  pub record IsNewPass (lock : TicketLock T E O) (first : ℕ) (pass : Pass T E O K) : Type 0 where
    pub is_pass : IsPassOf lock pass
    pub is_out : IsOut pass
    pub has_seen : seen pass ≡ []
    pub next : next_seen pass ≡ first
    pub served : served_seen pass ≡ first

  -- the lock was opened with this origin, this many seats and both words at `first`; its passes are
  -- new, and numbered from 1 in their order
  pub record IsOpened (root : O) (count first : ℕ) (lock : TicketLock T E O) (passes : List (Pass T E O K)) : Type 0 where
    pub counted : seats lock ≡ count
    pub rooted : opened_origin K.origin lock ≡ root
    pub are_new : AllByRecursion (IsNewPass lock first) passes
    pub numbered : map number passes ≡ numbers_from 1 count

  -- the lock was closed and leaves this history: each entry names a pass of the lock, and for each
  -- given pass the history is what it had seen, followed by entries of other passes only
  pub record IsClosedOver (lock : TicketLock T E O) (passes : List (Pass T E O K)) (history : List (ℕ × E)) : Type 0 where
    pub names : NamesUpTo (seats lock) history
    pub continues : AllByRecursion (λ (pass : Pass T E O K). Continues (number pass) (seen pass) history) passes

  -- the pass has seen no words greater than these
  abbrev pub HasSeenUpTo : Busy → Pass T E O K → Type 0
  HasSeenUpTo words pass = (next_seen pass ≤ words.next) × (served_seen pass ≤ words.served)
