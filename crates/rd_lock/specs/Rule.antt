-- The invariant of the lock: what holds between any two steps of its words, of its slot, and of
-- what each seat knows. Seats are numbered from 0, in the order of their views; passes are numbered
-- from 1.
use Rattle.std.specs.Prelude.{◌≡◌, ◌≢◌, ℕ, zero, suc, ◌^◌, ◌<◌, ◌≤◌, List, [], ◌∷◌, map, Option, Some, None}
use mathlib.Core.Option.{some, none}
use mathlib.Core.Option as maybe
use lib.ListN.{get_elem?}
use Rattle.atomic_table.specs.Table.{State}
use Rattle.rd_lock.specs.declared.views.PassView.{PassView}
use Rattle.rd_lock.specs.declared.views.View.{View}
use Rattle.rd_lock.specs.declared.views.Stage.{Stage}
use Rattle.rd_lock.specs.declared.views.Stage.TheVariants.{Out, Waits, Holds}
use Rattle.rd_lock.specs.Lists.{Pairwise, IsIn}
use Rattle.rd_lock.specs.Histories.{Continues, NamesUpTo}
use Rattle.std.specs.List.{AllByRecursion}

-- what never changes of a lock: how the history and the origin of a value are read, the number of
-- its seats, and the origin of the value that it was opened with (`root`)
pub record Lock (T E O : Type 0) : Type 0 where
  pub history : T → List (ℕ × E)
  pub origin : T → O
  pub seats : ℕ
  pub root : O

-- where the value is: at home in the slot, or away with the seat of this number
pub data Location (T : Type 0) : Type 0 where
  home : T → Location T
  away : ℕ → Location T

-- the whole state of the lock, which no thread knows alone
pub record LockState (T E : Type 0) : Type 0 where
  -- the word `next`
  pub next : ℕ
  -- the word `served`
  pub served : ℕ
  -- the history of the value, as it is in the slot or as the holder found it
  pub log : List (ℕ × E)
  -- the seat of the pass of this number
  pub owner : ℕ → ℕ
  -- the seat of this ticket, if it is drawn and not finished
  pub taker : ℕ → ℕ
  -- where the value is
  pub place : Location T

module _ {T E O : Type 0} where
  -- the lock with these ways to read a value's history and origin, this many seats and this origin
  abbrev pub lock_of : (T → List (ℕ × E)) → (T → O) → ℕ → O → Lock T E O
  lock_of history origin seats root = record { history = history; origin = origin; seats = seats; root = root }

module _ {E : Type 0} where
  -- the ticket by which a seat at this stage waits or holds; none if it does neither
  abbrev pub ticket : Stage E → maybe.Option ℕ
  ticket Out = none
  ticket (Waits t) = some t
  ticket (Holds t found) = some t

module _ {E O : Type 0} where
  -- the view of a seat with these members at this stage
  abbrev pub view_of : List (PassView E O) → Stage E → View E O
  view_of members stage = record { members = members; stage = stage }

  -- the member knows that the lock was opened with this many seats and this origin
  abbrev pub KnowsOpening : ℕ → O → PassView E O → Type 0
  KnowsOpening seats root p = (p.seats ≡ seats) × (p.origin ≡ root)

  -- no two members are the same pass
  abbrev pub HaveDifferentPasses : List (PassView E O) → Type 0
  HaveDifferentPasses ps = Pairwise (λ (p q : PassView E O). q.pass ≢ p.pass) ps

  -- a seat at this stage has just one member, if it waits or holds
  abbrev pub IsAloneAt : Stage E → List (PassView E O) → Type 0
  IsAloneAt Out ps = Unit {0}
  IsAloneAt (Waits t) ps = (p : PassView E O) × (ps ≡ p ∷ [])
  IsAloneAt (Holds t found) ps = (p : PassView E O) × (ps ≡ p ∷ [])

  -- the seat of this number waits or holds by the ticket
  abbrev pub HasTicket : List (View E O) → ℕ → ℕ → Type 0
  HasTicket views seat t = (v : View E O) × (get_elem? views seat ≡ some v) × (ticket v.stage ≡ some t)

  -- the pass numbers of these members
  abbrev pub pass_numbers : List (PassView E O) → List ℕ
  pass_numbers ps = map (λ (p : PassView E O). p.pass) ps

  -- the seat of this number has this pass as a member
  abbrev pub HasPass : List (View E O) → ℕ → ℕ → Type 0
  HasPass views seat pass = (v : View E O) × (get_elem? views seat ≡ some v) × IsIn pass (pass_numbers v.members)

  -- what this pass knows of a lock that was just opened with this many seats, this origin and both
  -- words at `first`: it has seen no history
  abbrev pub newcomer : ℕ → O → ℕ → ℕ → PassView E O
  newcomer seats root first pass = record { pass = pass; seats = seats; origin = root; seen = []; next = first; served = first }

  -- what n passes of such a lock know, with the numbers from `pass` on
  abbrev pub newcomers : ℕ → O → ℕ → ℕ → ℕ → List (PassView E O)
  newcomers seats root first pass zero = []
  newcomers seats root first pass (suc n) = newcomer seats root first pass ∷ newcomers seats root first (suc pass) n

  -- the view of the first seat of such a lock: all passes, numbered from 1, are its members, and it
  -- is out
  abbrev pub opening_view : ℕ → O → ℕ → View E O
  opening_view seats root first = view_of (newcomers seats root first 1 seats) Out

module _ {T E : Type 0} where
  -- the slots that a seat at this stage has taken, each with its content, as they are between two
  -- calls: a holder has taken slot 0 and left it empty; any other seat has taken none
  abbrev pub in_hand : Stage E → List (ℕ × Option T)
  in_hand Out = []
  in_hand (Waits t) = []
  in_hand (Holds t found) = (0, None) ∷ []

module _ {T : Type 0} where
  -- the table's one slot: at home with the value (`some (Some x)`), or taken (`none`) while the
  -- value is away
  abbrev pub single_slot : Location T → List (maybe.Option (Option T))
  single_slot (home x) = some (Some x) ∷ []
  single_slot (away seat) = none ∷ []

module _ {T E O : Type 0} (lock : Lock T E O) where
  -- what holds in this state of a pass that is a member of the seat of this number
  pub record MemberFits (f : LockState T E) (seat : ℕ) (p : PassView E O) : Type 0 where
    -- this is the pass's only seat
    pub owned : f.owner p.pass ≡ seat
    -- passes are numbered from 1 to the number of seats
    pub numbered : (0 < p.pass) × (p.pass ≤ lock.seats)
    -- the pass knows how the lock was opened
    pub knows_opening : KnowsOpening lock.seats lock.root p
    -- the present history is what the pass has seen, followed by entries of other passes only
    pub continues : Continues p.pass p.seen f.log
    -- no pass has seen a word above its present value
    pub words : (p.next ≤ f.next) × (p.served ≤ f.served)
    -- in a lock of one seat the pass has seen the present words, since nobody else moves them
    pub one_seat : lock.seats ≡ 1 → (p.next ≡ f.next) × (p.served ≡ f.served)

  -- what holds in this state of the seat of this number at this stage; nothing, if it is out. A
  -- ticket with which it waits is drawn, not finished, and the seat's own. So is one by which it
  -- holds, which is also the one served; the seat then has the value, and found the present history
  abbrev pub StageFits : LockState T E → ℕ → Stage E → Type 0
  StageFits f seat Out = Unit {0}
  StageFits f seat (Waits t) = (f.served ≤ t) × (t < f.next) × (f.taker t ≡ seat)
  StageFits f seat (Holds t found) = (t ≡ f.served) × (t < f.next) × (f.taker t ≡ seat) × (f.place ≡ away seat) × (found ≡ f.log)

  -- what holds in this state of the seat of this number with this view
  pub record ViewFits (f : LockState T E) (seat : ℕ) (v : View E O) : Type 0 where
    -- each member is a pass of this seat
    pub members : AllByRecursion (MemberFits f seat) v.members
    -- no two members are the same pass
    pub apart : HaveDifferentPasses v.members
    -- a ticket by which the seat waits or holds is drawn, not finished, and its own
    pub stage : StageFits f seat v.stage
    -- a seat that waits or holds has one member
    pub alone : IsAloneAt v.stage v.members

  -- the value is where this says: at home with the present history and the lock's origin, or away
  -- with a seat that holds by the ticket `served` and found the present history
  abbrev pub IsPlaced : LockState T E → List (View E O) → Location T → Type 0
  IsPlaced f views (home x) = (lock.history x ≡ f.log) × (lock.origin x ≡ lock.root)
  IsPlaced f views (away seat) = (v : View E O) × (get_elem? views seat ≡ some v) × (v.stage ≡ Holds f.served f.log)

  -- the invariant of the lock, apart from what its words and its slot contain
  pub record StateFits (f : LockState T E) (views : List (View E O)) : Type 0 where
    -- the words are in order, and at most 2^63
    pub order : f.served ≤ f.next
    pub limit : f.next ≤ 2 ^ 63
    -- each entry names a pass from 1 to the number of seats
    pub names : NamesUpTo lock.seats f.log
    -- what each seat knows agrees with the state
    pub each_view : (seat : ℕ) (v : View E O) → get_elem? views seat ≡ some v → ViewFits f seat v
    -- each pass is a member of its seat
    pub each_pass : (pass : ℕ) → 0 < pass → pass ≤ lock.seats → HasPass views (f.owner pass) pass
    -- each ticket from `served` to below `next` belongs to its seat, which waits or holds by it
    pub each_ticket : (t : ℕ) → f.served ≤ t → t < f.next → HasTicket views (f.taker t) t
    -- the value is where the state says: in the slot, or with the seat that holds
    pub is_placed : IsPlaced f views f.place

  -- the invariant of the lock: there is a `LockState` that has the table's words and slot, and fits
  -- the views of its seats
  abbrev pub LockRule : State (Option T) (View E O) → Type 0
  LockRule s = (f : LockState T E) × (s.words ≡ f.served ∷ f.next ∷ []) × (s.homes ≡ single_slot f.place) × StateFits f s.views
