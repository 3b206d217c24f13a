-- What contracts state of a lock and of its passes.
use Rattle.std.specs.Prelude.{◌≡◌, ℕ, ◌+◌, ◌^◌, ◌<◌, ◌≤◌, List, ◌++◌, length}
use Rattle.rd_lock.specs.declared.views.PassView.{PassView}
use Rattle.rd_lock.specs.declared.views.Recorded.{Ghosts}
use Rattle.rd_lock.specs.declared.views.Stage.TheVariants.{Out, Waits, Holds}
use Rattle.rd_lock.specs.declared.passes.Pass.{Pass}
use Rattle.rd_lock.specs.declared.locks.TicketLock.{TicketLock}
use Rattle.rd_lock.specs.declared.tickets.TryTakeError.{TryTakeError}
use Rattle.rd_lock.specs.Lists.{only}
use Rattle.rd_lock.specs.Histories.{put_by, signed, with_positions, AddsOwn, Continues}
use Rattle.rd_lock.specs.Rule.{KnowsOpening}

module _ {T E O : Type 0} where
  -- the number of seats that the lock was opened with, one for each pass; the key of its table is
  -- an `Opened`
  abbrev pub seats : TicketLock T E O → ℕ
  seats lock = lock.table.shared.key.seats

  -- the origin of the value that the lock was opened with, of which the key has a snapshot;
  -- `origin` gives a value's origin
  abbrev pub opened_origin : (T → O) → TicketLock T E O → O
  opened_origin origin lock = origin lock.table.shared.key.value.value

module _ {T E O : Type 0} {K : Ghosts T E O} where
  -- what the pass knows: the one member of its seat's view (`me.0`)
  abbrev pub pass_view : Pass T E O K → PassView E O
  pass_view pass = only pass.seat.me.0.members pass.alone

  -- the pass's number, from 1
  abbrev pub number : Pass T E O K → ℕ
  number pass = (pass_view pass).pass

  -- the history of the value when the pass last put it back; empty before the first time
  abbrev pub seen : Pass T E O K → List (ℕ × E)
  seen pass = (pass_view pass).seen

  -- the entries that the pass has put, each with its position in the history, from 1
  abbrev pub own_entries : Pass T E O K → List (ℕ × E)
  own_entries pass = put_by (number pass) 1 (seen pass)

  -- the greatest value that the pass knows the word `next` to have reached; a load of `served`
  -- counts too, since `next` is never below it
  abbrev pub next_seen : Pass T E O K → ℕ
  next_seen pass = (pass_view pass).next

  -- the greatest value of the word `served` that the pass has seen
  abbrev pub served_seen : Pass T E O K → ℕ
  served_seen pass = (pass_view pass).served

  -- the pass neither waits nor holds
  abbrev pub IsOut : Pass T E O K → Type 0
  IsOut pass = pass.seat.me.0.stage ≡ Out

  -- the pass waits with this ticket; it does so only inside `take`
  abbrev pub IsWaiting : Pass T E O K → ℕ → Type 0
  IsWaiting pass ticket = pass.seat.me.0.stage ≡ Waits ticket

  -- the pass holds the value by this ticket, and found it with this history
  abbrev pub IsHolding : Pass T E O K → ℕ → List (ℕ × E) → Type 0
  IsHolding pass ticket found = pass.seat.me.0.stage ≡ Holds ticket found

  -- the pass is one of this lock's: its seat is at the lock's table, and it knows how the lock was
  -- opened
  pub record IsPassOf (lock : TicketLock T E O) (pass : Pass T E O K) : Type 0 where
    pub table : pass.seat.table_id ≡ lock.table.shared.table_id
    pub knows_opening : KnowsOpening (seats lock) (opened_origin K.origin lock) (pass_view pass)

  -- the pass knows values of the two words that are at least as great as before
  abbrev pub KnowsNoLess : Pass T E O K → Pass T E O K → Type 0
  KnowsNoLess old new = (next_seen old ≤ next_seen new) × (served_seen old ≤ served_seen new)

  -- the pass has the same number and has seen the same history, so its own entries are the same;
  -- what it knows of the two words has only grown
  pub record IsSamePass (old new : Pass T E O K) : Type 0 where
    pub same_number : number new ≡ number old
    pub same_seen : seen new ≡ seen old
    pub words : KnowsNoLess old new

  -- after a take the pass holds by a ticket below 2^63, and found the value with its present
  -- history. The value has the lock's origin, and its history is what the pass had seen, followed
  -- by entries of other passes only
  pub record IsTaken (lock : TicketLock T E O) (old new : Pass T E O K) (value : T) : Type 0 where
    pub rooted : K.origin value ≡ opened_origin K.origin lock
    pub continues : Continues (number old) (seen old) (K.history value)
    pub held : (ticket : ℕ) × (ticket < 2 ^ 63) × IsHolding new ticket (K.history value)

  -- why the pass took nothing, by what it knows after the call. `Busy` has the greatest words that
  -- it has seen, `served` below `next` and `next` below 2^63. At `TicketsEnded` it knows that
  -- `next` has reached 2^63
  abbrev pub IsMissed : Pass T E O K → TryTakeError → Type 0
  IsMissed pass (TryTakeError.Busy words) = (words.next ≡ next_seen pass) × (words.served ≡ served_seen pass) × (words.served < words.next) × (words.next < 2 ^ 63)
  IsMissed pass TryTakeError.TicketsEnded = next_seen pass ≡ 2 ^ 63

  -- the pass holds and may put this value back: the value has the lock's origin, and its history is
  -- what the pass found, followed by entries of this pass only
  pub record MayPutBack (lock : TicketLock T E O) (pass : Pass T E O K) (value : T) : Type 0 where
    pub rooted : K.origin value ≡ opened_origin K.origin lock
    pub held : (ticket : ℕ) × (found : List (ℕ × E)) × IsHolding pass ticket found × AddsOwn (number pass) found (K.history value)

  -- after a put the pass has its number, has seen just this value's history, and knows no less of
  -- the words. The history that it found was what it had seen, followed by entries of other passes
  -- only. So its own entries are those that it had, followed by those that it put, each with its
  -- position
  pub record HasPutBack (old new : Pass T E O K) (value : T) : Type 0 where
    pub same_number : number new ≡ number old
    pub continues : (ticket : ℕ) (found : List (ℕ × E)) → IsHolding old ticket found → Continues (number old) (seen old) found
    pub has_seen : seen new ≡ K.history value
    pub own_grows : (ticket : ℕ) (found : List (ℕ × E)) (es : List E) → IsHolding old ticket found → K.history value ≡ found ++ signed (number old) es → own_entries new ≡ own_entries old ++ with_positions (1 + length found) es
    pub words : KnowsNoLess old new
