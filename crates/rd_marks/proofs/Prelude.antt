-- The words that several proofs of the crate use: definitions of this crate and of those below,
-- generated types and their variants, and lemmas of these crates and of std.
pub use Rattle.std.proofs.lemmas.Map.Made.{lookup-map_values}
pub use Rattle.std.specs.Map.{lookup, remove_entry, values_of}
pub use Rattle.std.specs.Set.{remove_key}
pub use Rattle.rd_cell.proofs.Prelude.{All, All-cons, All-contains, All-head, All-map, All-nil, All-push, All-tail, Bool, Contains, Contains-append_cases, Contains-append_left, Contains-append_right, Err, IfErr, IfOk-weaker, IsDistinct, IsErrAnd, IsOk, IsSend, IsUtf8-from_ascii, List, None, Ok, OnErr, OnOk, Option, RattleType, Result, Some, [], add-one, and_parts, ap, append-nil, append_assoc, arith, cases_eq, cases_lt, cases_order, cond, crosses, drop, drop-append-add, drop-cons, drop-length, drop-map, drop-take, eq-eqb, eqb-true, false, false≢true, get_or, get_or-map, get_or_from_slice_get, inl, inr, insert, is_ok, is_some, length, length-append, length-drop, length-map, length-set, length-take, length-take-le, list_all, lit<, map, map-append, map-id, max, nat_lt, nat_tests, ne_eqb, not, on_err_weaker, option_map, range_with_len, recorded_send, refl, remove, reverse, reverse-append, same_Some, sendable, set, shape, slice_get, slice_get-map, slice_get_read, slice_get_within, struct_send, subst, suc, sum_by, sum_by-cons, sum_by-le, sym, take, take-add, take-append-add, take-append-drop, take-append-le, take-append_seam, take-length, take-map, take-suc, take-take, take_all, true, vec_capacity, vec_len, zero, ℕ, ◌&&◌, ◌++◌, ◌+◌, ◌-◌, ◌<◌, ◌==◌, ◌^◌, ◌↔◌, ◌∙◌, ◌∷◌, ◌≡◌, ◌≢◌, ◌≤◌, ◌⊎◌, drop_all, take_rest, get_or-set_same, get_or-set_other}
pub use Rattle.rd_step.proofs.Prelude.{IsEquivalent, IsRunFrom, MOST_STEPS, OpReply, Refusal, World, and_then, closure, events, first_dependant, items_where_false, numbered, result_map, run, run_entries}
pub use Rattle.rd_equivalence.proofs.Prelude.{Begins, DecidesEquivalence, NeitherBegins}
pub use Rattle.rd_depend.proofs.Prelude.{Entry, Event, first_step, equivalence_reflexive, runs_to}
pub use Rattle.rd_journal.proofs.Prelude.{AnswersAs, IsRun, Journal, LacksRoomToSwitch, LacksRoomForEvents, MayLackMemory, MayRefuse, State, ahead, ahead_entries, apply, back, capacity, fact_passed_up, forward, index, journal, live_event, call_result_of, roll, state, state_of, switch, track, undo_at, unless_depended}
pub use Rattle.indexmap.specs.IndexMap.{set_value_at, spare}
pub use Rattle.rd_journal.proofs.Calls.{event_of_entry, is_live, opened_ring, went_through}
pub use Rattle.rd_journal.specs.Sessions.{room}
pub use Rattle.rd_journal.specs.declared.sessions.Session.{Session}
pub use Rattle.rd_marks.specs.Book.{MayRefuseIfGoto, book_state, name_room, session_of}
pub use Rattle.rd_marks.specs.BookState.{AnswersMarkEvents, AnswersSame, BookState, GotoMakesSteps, Mark, at_events, goto_mark, mark, mark_at, mark_events, events_by_name, with_session}
pub use Rattle.rd_marks.specs.Bookmarks.{here_entries, named_entries_in, marks_of, stretches_in}
pub use Rattle.rd_marks.specs.BookmarksFields.{AreEntriesOfRun, AreRuns, IsKept, IsPruned, named_entries, nodes_of}
pub use Rattle.rd_marks.specs.Changes.{after_insertion, after_removal, IsGrown, CanShiftUp, IsShrunk, KeepsEntries, Stays, shifted}
pub use Rattle.rd_marks.specs.Commands.{Answered, AreObeyed, IsEventAnswer, IsAsDefined, IsObeyed, SetsMarkWithoutMemory, answer_with, move_answer, step_counts}
pub use Rattle.rd_marks.specs.Events.{as_event, as_reply}
pub use Rattle.rd_marks.specs.NameBytes.{MOST_MARKS, MOST_NAME_BYTES, is_mark_name, is_name_byte}
pub use Rattle.rd_marks.specs.Names.{bytes_of, mark_name_eq}
pub use Rattle.rd_marks.specs.Rules.{CanRun, HaveDifferentNames, KeepsRules, MarksCanRun}
pub use Rattle.rd_marks.specs.Stretches.{AreFresh, AreNeeded, AreNeededFrom, AreNested, AgreesFor, IsDeepest, IsEnd, IsCanonical, IsWithin, NeedsCopy, continued, entry_count, entries_at, greatest_len_in_stretch, list_from, list_before, needed_at, node_len_in_stretch, shared_at, stretch_list}
pub use Rattle.rd_marks.specs.declared.bookmarks.Bookmarks.{Bookmarks}
pub use Rattle.rd_marks.specs.declared.books.Book.{Book}
pub use Rattle.rd_marks.specs.declared.commands.Command.{Command}
pub use Rattle.rd_marks.specs.declared.names.MarkName.{MarkName}
pub use Rattle.rd_marks.specs.declared.replies.Reply.{Reply}
pub use Rattle.rd_marks.specs.declared.replies.Reply.TheVariants.{Applied}
pub use Rattle.rd_marks.specs.declared.stretches.Node.{Node}
pub use Rattle.rd_marks.specs.declared.stretches.Stretch.{Stretch}
pub use Rattle.rd_marks.specs.declared.stretches.changes.Shift.{Shift}
