-- The state of a book, and what each call on bookmarks makes of it.
use Rattle.std.specs.Prelude.{◌≡◌, ◌↔◌, IsTrue, Bool, ℕ, ◌==◌, if◌then◌else◌, is_some, List, [], ◌∷◌, ◌++◌, length, ok_or, option_map, option_and_then, Option, Some, None, Result, Ok, Err, Vec}
use Rattle.std.specs.Global.{Global}
use Rattle.std.specs.Set.{remove_key}
use Rattle.rd_step.specs.Prelude.{World, Refusal, result_map}
use Rattle.rd_step.specs.Equivalence.{IsEquivalent}
use Rattle.rd_step.specs.declared.entries.Event.{Event}
use Rattle.rd_equivalence.specs.Beginnings.{Begins, NeitherBegins}
use Rattle.rd_journal.specs.State.{State}
use Rattle.rd_step.specs.Lists.{numbered}
use Rattle.rd_marks.specs.declared.names.MarkName.{MarkName}
use Rattle.rd_marks.specs.NameBytes.{MOST_MARKS}
use Rattle.rd_marks.specs.Names.{mark_name_eq}
use Rattle.rd_cell.specs.declared.refusal.Refusal.TheVariants as refusal

-- a bookmark: its name, and the events that were live when it was set
pub record Mark : Type 0 where
  pub name : MarkName
  pub events : List Event

-- the state of a book: its session's state, and its marks in the order in which they were set
pub record BookState : Type 0 where
  pub session : State
  pub marks : List Mark

-- the book with another session state, and its marks as they are
abbrev pub with_session : BookState → State → BookState
with_session b s = record { session = s; marks = b.marks }

-- the events of the first mark of this name, or None if there is no such mark
abbrev pub events_by_name : List Mark → MarkName → Option (List Event)
events_by_name [] name = None
events_by_name (m ∷ ms) name = if mark_name_eq name m.name then Some m.events else events_by_name ms name

-- the book after setting a mark of this name, last of all marks, with the live events. It is
-- refused with MarkTaken if a mark has this name already, and otherwise with TooManyMarks if there
-- are MOST_MARKS
abbrev pub mark : BookState → MarkName → Result BookState Refusal
mark b name =
    if is_some (events_by_name b.marks name) then Err refusal.MarkTaken
    else if length b.marks == MOST_MARKS then Err refusal.TooManyMarks
    else Ok (record { session = b.session; marks = b.marks ++ record { name = name; events = b.session.live } ∷ [] })

-- the book after dropping the first mark of this name, where the others keep their order; refused
-- with NoMark if there is none
abbrev pub drop_mark : BookState → MarkName → Result BookState Refusal
drop_mark b name =
    if is_some (events_by_name b.marks name) then Ok (record { session = b.session; marks = remove_key (λ m. mark_name_eq name m.name) b.marks })
    else Err refusal.NoMark

-- the book in which just these events are live, and none is undone
abbrev pub at_events : BookState → List Event → BookState
at_events b es = with_session b (record { start = b.session.start; live = es; undone = [] })

-- the book after going to the mark of this name: just its events are live; refused with NoMark if
-- there is none
abbrev pub goto_mark : BookState → MarkName → Result BookState Refusal
goto_mark b name = result_map (at_events b) (ok_or (events_by_name b.marks name) refusal.NoMark)

-- there is a mark of this name, and the live events don't begin with its events, so going to it
-- makes steps
abbrev pub GotoMakesSteps : BookState → MarkName → Type 0
GotoMakesSteps b name = (es : List Event) × (events_by_name b.marks name ≡ Some es) × (Begins es b.session.live → ⊥)

-- the comparison of two marks may answer this. If both exist: whether their events are causally
-- equivalent from the start, or NoMemory if neither list begins the other. If one is missing:
-- NoMark
abbrev pub AnswersSame : World → Option (List Event) → Option (List Event) → Result Bool Refusal → Type 0
AnswersSame start (Some es) (Some fs) (Ok same) = IsTrue same ↔ IsEquivalent start es fs
AnswersSame start (Some es) (Some fs) (Err cause) = (cause ≡ refusal.NoMemory) × NeitherBegins es fs
AnswersSame start _ _ said = said ≡ Err refusal.NoMark

-- the events of the i-th mark, counted from 1, or None if there is no such mark
abbrev pub mark_events : BookState → ℕ → Option (List Event)
mark_events b i = option_map (λ m. m.events) (numbered b.marks i)

-- the n-th event of the i-th mark, both counted from 1, or None if there is no such mark or event
abbrev pub mark_event : BookState → ℕ → ℕ → Option Event
mark_event b i n = option_and_then (λ es. numbered es n) (mark_events b i)

-- the request for a mark's events may answer this: NoMark if there is no such mark, otherwise its
-- events or, if it has any, NoMemory
abbrev pub AnswersMarkEvents : Option (List Event) → Result (Vec Event Global) Refusal → Type 0
AnswersMarkEvents None said = said ≡ Err refusal.NoMark
AnswersMarkEvents (Some es) (Ok list) = list.items ≡ es
AnswersMarkEvents (Some es) (Err cause) = (cause ≡ refusal.NoMemory) × (es ≡ [] → ⊥)

-- the book at its start: no event is live, and none is undone
abbrev pub to_start : BookState → BookState
to_start b = at_events b []

-- the name of the i-th mark, counted from 1, and the number of its events; refused with NoMark if
-- there is no such mark
abbrev pub mark_at : BookState → ℕ → Result (MarkName × ℕ) Refusal
mark_at b i = result_map (λ m. (m.name, length m.events)) (ok_or (numbered b.marks i) refusal.NoMark)
