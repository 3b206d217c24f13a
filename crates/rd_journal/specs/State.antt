-- What a session is to its callers: a start world, the live events and the undone events. A state
-- has no entries: its functions use only the runs of lists of events, and which entries of these
-- runs depend on each other. A function that uses the run of the live events is refused if this run
-- is. The k-th event or step is counted from 1.
use Rattle.std.specs.Prelude.{◌≡◌, ◌⊎◌, ℕ, Bool, ◌-◌, ◌<◌, ◌==◌, nat_lt, if◌then◌else◌, List, [], ◌∷◌, ◌++◌, length, take, drop, Option, option_and_then, ok_or, Result, Ok, Err, IsOk}
use Rattle.std.specs.List.{items_where_true}
use Rattle.std.specs.Result.{result_ok}
use Rattle.rd_step.specs.Prelude.{Refusal, OpReply, World, Stepped, step, Ran, run, first_dependant, numbered, without, closure, items_where_false, MOST_STEPS, and_then, result_map}
use Rattle.rd_step.specs.declared.entries.Event.{Event}
use Rattle.rd_journal.specs.Journal.{Journal, events, unless_depended}
use Rattle.rd_cell.specs.declared.refusal.Refusal.TheVariants as refusal

-- the start, the live events in their order, and the undone events, the one undone last in front
pub record State : Type 0 where
  pub start : World
  pub live : List Event
  pub undone : List Event

-- the state of a journal
abbrev pub state_of : Journal → State
state_of j = record { start = j.start; live = events j.live; undone = events j.undone }

-- the run of the live events from the start; it always succeeds for a session's state
abbrev pub run_of : State → Result Ran Refusal
run_of s = run s.start s.live

-- the step that an event makes in the last world of a run; refused if the run or the step is
abbrev pub step_after : Result Ran Refusal → Event → Result Stepped Refusal
step_after r e = and_then r (λ ran. step ran.world e)

-- the result of the call that an event ends if its step is made after the live events; none if the
-- step ends no call, or if the step or the run of the live events is refused
abbrev pub call_result_of : State → Event → Option OpReply
call_result_of s e = option_and_then (λ stepped. stepped.entry.reply) (result_ok (step_after (run_of s) e))

-- the state with the event put last among the live ones, and nothing undone
abbrev pub with_event : State → Event → State
with_event s e = record { start = s.start; live = s.live ++ e ∷ []; undone = [] }

-- the state after an event, which becomes the last live one, with nothing undone. It is refused
-- with `TooLong` if `MOST_STEPS` steps are live, else as its step is refused in the last world of
-- the live events
abbrev pub apply : State → Event → Result State Refusal
apply s e =
    if length s.live == MOST_STEPS then Err refusal.TooLong else result_map (λ stepped. with_event s e) (step_after (run_of s) e)

-- the event may be refused memory in this state: fewer than `MOST_STEPS` steps are live, and either
-- none is undone or nothing else refuses the event
pub record MayLackMemory (s : State) (e : Event) : Type 0 where
  pub not_full : length s.live < MOST_STEPS
  pub asked : (s.undone ≡ []) ⊎ IsOk (apply s e)

-- the state after undoing the last n live steps, which become the front of the undone ones, in
-- their order; refused with `NothingToUndo`, with the number of live steps, if fewer than n are
-- live
abbrev pub back : State → ℕ → Result State Refusal
back s n =
    if nat_lt (length s.live) n
    then Err (refusal.NothingToUndo (length s.live))
    else Ok (record { start = s.start; live = take (length s.live - n) s.live; undone = drop (length s.live - n) s.live ++ s.undone })

-- the state after redoing the first n undone steps, those undone last, which become the last live
-- ones, in their order; refused with `NothingToRedo` if fewer than n are undone
abbrev pub forward : State → ℕ → Result State Refusal
forward s n =
    if nat_lt (length s.undone) n
    then Err refusal.NothingToRedo
    else Ok (record { start = s.start; live = s.live ++ take n s.undone; undone = drop n s.undone })

-- the live event of this number, from 1; refused with `NoSuchStep`, with the number of live steps,
-- if there is none
abbrev pub live_event : State → ℕ → Result Event Refusal
live_event s k = ok_or (numbered s.live k) (refusal.NoSuchStep (length s.live))

-- the state after undoing the k-th live step alone, which becomes the front of the undone ones. It
-- is refused with `NoSuchStep` if there is no such step, and with `Depended` if a later live step
-- depends on it, with the number of the first one that does
abbrev pub undo_at : State → ℕ → Result State Refusal
undo_at s k =
    and_then (live_event s k) (λ e.
    and_then (run_of s) (λ ran.
    and_then (unless_depended (first_dependant ran.entries k)) (λ _.
    Ok (record { start = s.start; live = without s.live k; undone = e ∷ s.undone }))))

-- the state in which the live events at the positions where `marks` has `true` have become the
-- front of the undone ones; these and the others are in their order
abbrev pub undone_where_true : State → List Bool → State
undone_where_true s marks = record { start = s.start; live = items_where_false marks s.live; undone = items_where_true marks s.live ++ s.undone }

-- the state after rolling back the k-th live step: it and just the later ones that depend on it,
-- directly or through others, have become the front of the undone ones. It is refused with
-- `NoSuchStep` if there is no such step
abbrev pub roll : State → ℕ → Result State Refusal
roll s k = and_then (live_event s k) (λ _. result_map (λ ran. undone_where_true s (closure ran.entries k)) (run_of s))

-- the state whose live events are the first n from before, followed by these, with nothing undone
abbrev pub switch : State → ℕ → List Event → State
switch s n es = record { start = s.start; live = take n s.live ++ es; undone = [] }
