-- What each operation does to one content.
use Rattle.std.specs.Prelude.{ℕ, ◌+◌, Bool, true, false, not, ◌==◌, ◌&&◌, nat_lt, nat_le, if◌then◌else◌, Option, Some, None, option_map, Result, Ok, Err}
use Rattle.std.specs.Option.{option_eq}
use Rattle.std.specs.Result.{result_ok}
use Rattle.rd_cell.specs.declared.limits.TheConstants.{COUNTER_END, SLOTS}
use Rattle.rd_cell.specs.declared.places.Place.{Place}
use Rattle.rd_cell.specs.declared.contents.Content.{Content}
use Rattle.rd_cell.specs.declared.contents.Content.TheVariants as content
use Rattle.rd_cell.specs.declared.cells.Cell.{Cell as Words}
use Rattle.rd_cell.specs.declared.places.Wrote.{Wrote}
use Rattle.rd_cell.specs.declared.places.Wrote.TheVariants as wrote
use Rattle.rd_cell.specs.declared.operations.Operation.{Operation}
use Rattle.rd_cell.specs.declared.operations.Operation.TheVariants.{Read, ReadValue, ReadSafeAndIndex, Add, AddArray, Close, CasName, CasNext, CasTail, Cas2, Swap}
use Rattle.rd_cell.specs.declared.operations.Answer.{Answer}
use Rattle.rd_cell.specs.declared.operations.Answer.TheVariants as answer
use Rattle.rd_cell.specs.declared.refusal.Refusal.{Refusal}
use Rattle.rd_cell.specs.declared.refusal.Refusal.TheVariants as refusal
use Rattle.rd_cell.specs.Places.{name_eq, is_of_array}
use Rattle.rd_cell.specs.Cells.{cell_eq}

-- what an operation does to one content: its `answer`, and the content that it `writes`, or none if
-- it writes nothing
pub record Effect : Type 0 where
  pub answer : Answer
  pub writes : Option Content

-- the effect of an operation that answers this and writes nothing
abbrev pub reads : Answer → Result Effect Refusal
reads said = Ok (record { answer = said; writes = None })

-- the effect of an operation that answers this and writes this content
abbrev pub writes : Answer → Content → Result Effect Refusal
writes said c = Ok (record { answer = said; writes = Some c })

-- the answer of a compare-and-swap, by whether it won
abbrev pub cas_answer : Bool → Answer
cas_answer won = if won then answer.Won else answer.Lost

-- which part of its place a compare-and-swap wrote: `written` if it won, else nothing
abbrev pub cas_wrote : Bool → Wrote → Wrote
cas_wrote won written = if won then written else wrote.Nothing

-- the effect of a compare-and-swap: if it `won`, it answers `Won` and writes this content, else it
-- answers `Lost` and writes nothing
abbrev pub compares_and_swaps : Bool → Content → Result Effect Refusal
compares_and_swaps won c = if won then writes answer.Won c else reads answer.Lost

-- the effect of a fetch-and-add on a counter at n: below the limit it answers the old content and
-- writes the new one, from the limit on it is refused for this cause
abbrev pub adds : ℕ → ℕ → Refusal → Content → Content → Result Effect Refusal
adds limit n cause old new = if nat_lt n limit then writes (answer.Found old) new else Err cause

-- the effect of an operation on a content; `CounterEnd` or `ArrayEnd` for a fetch-and-add on a
-- counter at its end; `NoSuchPlace` on a content of another kind, for which no well-formed world
-- asks
abbrev pub effect : Operation → Content → Result Effect Refusal
effect Read (content.Name s) = reads (answer.Found (content.Name s))
effect Read (content.Number n) = reads (answer.Found (content.Number n))
effect Read (content.Tail c n) = reads (answer.Found (content.Tail c n))
effect Read (content.Next m) = reads (answer.Found (content.Next m))
effect ReadValue (content.Val val) = reads (answer.Value val)
effect ReadSafeAndIndex (content.Idx safe idx) = reads (answer.SafeAndIndex safe idx)
effect Add (content.Number n) = adds COUNTER_END n refusal.CounterEnd (content.Number n) (content.Number (n + 1))
effect Add (content.Tail c n) = adds COUNTER_END n refusal.CounterEnd (content.Tail c n) (content.Tail c (n + 1))
effect AddArray (content.Number n) = adds SLOTS n refusal.ArrayEnd (content.Number n) (content.Number (n + 1))
effect Close (content.Tail c n) = writes (answer.WasClosed c) (content.Tail true n)
effect (CasName old new) (content.Name s) = compares_and_swaps (name_eq s old) (content.Name new)
effect (CasNext new) (content.Next None) = compares_and_swaps true (content.Next (Some new))
effect (CasNext new) (content.Next (Some m)) = compares_and_swaps false (content.Next (Some new))
effect (CasTail old new) (content.Tail c n) = compares_and_swaps (not c && (n == old)) (content.Tail false new)
effect (Cas2 old new) (content.Cell c) = compares_and_swaps (cell_eq c old) (content.Cell new)
effect (Swap new) (content.Slot old) = writes (answer.Found (content.Slot old)) (content.Slot new)
effect _ _ = Err refusal.NoSuchPlace

-- which part of a cell is written when a new cell replaces the old one: the index half alone if the
-- values are equal, else both halves
abbrev pub wrote_cell : Words → Words → Wrote
wrote_cell old new = if option_eq ◌==◌ old.val new.val then wrote.Index else wrote.Place

-- which part of its place an operation wrote that found this old content and wrote this new one:
-- nothing without a new one, the index half alone of a cell that keeps its value, else all
abbrev pub wrote_by : Content → Option Content → Wrote
wrote_by old None = wrote.Nothing
wrote_by (content.Cell old) (Some (content.Cell new)) = wrote_cell old new
wrote_by old (Some new) = wrote.Place

-- whether an operation only reads
abbrev pub is_read : Operation → Bool
is_read Read = true
is_read ReadValue = true
is_read ReadSafeAndIndex = true
is_read _ = false

-- the answer of an operation that is a read for this kind of content, else none
abbrev pub read_answer : Operation → Content → Option Answer
read_answer op c = if is_read op then option_map (λ e. e.answer) (result_ok (effect op c)) else None

-- whether an operation leaves the counters of a segment at most at their end: any does, except the
-- array's fetch-and-add, whose own limit is another one, and a compare-and-swap that would set the
-- tail past 2^62. Whether it is for this kind of content is said by `effect`
abbrev pub keeps_segment_limits : Operation → Bool
keeps_segment_limits AddArray = false
keeps_segment_limits (CasTail old new) = nat_le new COUNTER_END
keeps_segment_limits _ = true

-- whether an operation leaves the counters of the array at most at their end: any does, except a
-- segment's fetch-and-add, whose own limit is higher
abbrev pub keeps_array_limits : Operation → Bool
keeps_array_limits Add = false
keeps_array_limits _ = true

-- whether an operation at this place keeps the limits: those of the array at its places, and those
-- of segments at all others. That the place is there, with the right kind of content, is
-- `SuitsContent` of rd_step
abbrev pub keeps_limits : Place → Operation → Bool
keeps_limits p op = if is_of_array p then keeps_array_limits op else keeps_segment_limits op
