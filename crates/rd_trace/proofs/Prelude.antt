-- The words that several proofs of the crate use: definitions of this crate and of those below,
-- generated types and their variants, and lemmas of these crates and of std.
pub use Rattle.rd_cell.proofs.Prelude.{AllByRecursion, BTreeMap, Bool, Decides, Err, Global, IfNone, IfOk, IfOk-weaker, IfSome, IsDistinct-head, IsDistinct-push, IsDistinct-tail, IsErrAnd, IsOk, IsUtf8, List, None, Ok, OnOk, Option, Result, Some, String, Vec, [], add-one, and_parts, ap, append-nil, append_assoc, ap₂, arith, both_ways, bytes_eq-Decides, codes, common_steps, cond, cond-false, decimal, drop, drop-append_seam, drop_more, eqb-true, false, false≢true, get_or, get_or-map, get_or_default, get_or_from_slice_get, if◌then◌else◌, inl, inr, is_ok, is_some, le-ltb, length, length-append, length-drop, length-map, length-set, length-take, length-take-le, list_all, list_all-map, list_any, lt-ltb, map, map-append, map-id, map_more, map_push, max, nat_eq, nat_le, nat_lt, ne_eqb, none-some, not, ok_or, option_and_then, option_map, option_or, or_cases, refl, replicate, result_err, rules, same_Some, set, slice_get, slice_get-get_or, slice_get-map, slice_get_within, string_bytes, subst, subst₂, suc, sym, take, take-append-drop, take-append_seam, take-suc-set, take_all, take_more, take_rest, true, true≢false, vec_capacity, vec_len, zero, ℕ, ◌&&◌, ◌++◌, ◌+◌, ◌-◌, ◌<◌, ◌==◌, ◌^◌, ◌||◌, ◌∙◌, ◌∷◌, ◌≡◌, ◌≢◌, ◌≤◌, ◌⊎◌}
unfoldable pub use Rattle.rd_cell.proofs.Prelude.{IsDistinct}
pub use Rattle.rd_ring.proofs.Prelude.{ArrSlot, COUNTER_END, Cell, MOST_ACTORS, MOST_CELLS, MOST_SEGMENTS, SLOTS, SegName, counters_fit}
pub use Rattle.rd_segments.proofs.Prelude.{array_contents, by_name, element_in, contents_with, segment_count, count_in, some_parts_contents, contents_of_segments}
pub use Rattle.rd_step.proofs.Prelude.{Act, Actor, ArrayParts, MOST_STEPS, Pc, Ran, Refusal, SegmentParts, Stepped, World, array_fits, events, first_flaw, fresh_world, indexes_fit, model, names_fit, next_fits, numbered, numbers_within, result_map, run, step, words_fit, world_of_parts}
pub use Rattle.rd_journal.proofs.Prelude.{State, apply, back, state, step_after, with_event}
pub use Rattle.rd_marks.proofs.Prelude.{Answered, AnswersMarkEvents, BookState, CanRun, IsEventAnswer, HaveDifferentNames, KeepsRules, MOST_MARKS, Mark, MarksCanRun, answer_with, at_events, book_state, bytes_of, is_mark_name, is_name_byte, mark, mark_at, mark_events, mark_name_eq, events_by_name, opened_ring, session_of, with_session}
pub use Rattle.rd_marks.specs.AnyBook.{IsBookIn, any_state}
pub use Rattle.rd_marks.specs.declared.books.Book.{Book}
pub use Rattle.rd_marks.specs.declared.replies.Reply.{Reply}
pub use Rattle.rd_marks.specs.declared.any_book.AnyBook.{AnyBook}
pub use Rattle.json.proofs.Printed.Strings.{content-escape, escape_byte_plain, lex-escape}
pub use Rattle.json.specs.Lex.{Lexeme, between, comma, fresh, punctuate, string_token, token, tokens}
unfoldable pub use Rattle.json.specs.Lex.{lex}
pub use Rattle.json.specs.Print.{ArePrintableOrBad, IsPrintable, begins, ends, escape, print, quoted, token_text}
unfoldable pub use Rattle.json.specs.Print.{ArePrintable, escape_byte, print_from}
pub use Rattle.json.specs.Token.{Token, bad, begin_array, begin_object, end_array, end_object, key}
pub use Rattle.rd_marks.proofs.MarkLemmas.{name_and_length, with_marks}
pub use Rattle.rd_marks.specs.declared.names.MarkName.{MarkName}
pub use Rattle.rd_step.specs.declared.entries.Entry.{Entry}
pub use Rattle.rd_step.specs.declared.entries.Event.{Event}
pub use Rattle.rd_step.specs.declared.flaws.Flaw.{Flaw}
pub use Rattle.rd_step.specs.declared.parts.Parts.{Parts}
pub use Rattle.serde_json.proofs.Views.{members_len-members_view, view-Object}
pub use Rattle.serde_json.specs.Data.{Data, Items, Members, array, depth, item, items_depth, member, members_depth, no_items, no_members, object, put, unsigned}
pub use Rattle.serde_json.specs.Find.{as_array, as_object, get}
pub use Rattle.serde_json.specs.Read.{max_depth, of_json, read}
pub use Rattle.serde_json.specs.View.{items_view, members_view, view}
pub use Rattle.serde_json.specs.Written.{IsInOrder, comma_if, compact_text, has_float, items_have_float, items_outline, items_text, members_outline, members_text, outline}
pub use Rattle.serde_json.specs.declared.value.Value.{Value}
pub use Rattle.rd_trace.specs.Actors.{SpellsActor, actor_data, op_of_items, val_data, val_of}
pub use Rattle.rd_trace.specs.Arrays.{SpellsArray, array_data, filled_slots, slot_data, slot_of, slot_of_items}
pub use Rattle.rd_trace.specs.Bookmarks.{SpellMarksOfBook, SpellsMark, mark_data, saved_mark, saved_marks}
pub use Rattle.rd_trace.specs.Events.{event_array, event_data, event_of, event_of_items, event_triple, event_pair}
pub use Rattle.rd_trace.specs.Loading.{IsSameAnswer, LoadsAgain, LoadsTrace, Replays, first_mark_fault, trace_fault}
pub use Rattle.rd_trace.specs.Names.{segment_name_data, segment_name_of, segment_name_of_items, next_data, next_of}
pub use Rattle.rd_trace.specs.Numbers.{byte_number, items_at, member_count, number_at}
pub use Rattle.rd_trace.specs.Saved.{IsEitherVersion, IsSameBook, IsTraceText, IsVersion1, IsVersion2, Trace, book_data, book_object, loaded_state, saved_trace, name_bytes_and_events}
pub use Rattle.rd_trace.specs.Segments.{SpellsSegment, SpellsSegmentList, cell_data, cell_of, cell_of_items, segment_list_data, segment_data}
pub use Rattle.rd_trace.specs.Spelled.{AreSpelled, Gives, Reads, SpellEach, SpellEachAt, SpellEachOf, elements, items_by, itself}
pub use Rattle.rd_trace.specs.Starts.{SpellsFreshStart, SpellsParts, SpellsStart, IsStartWrittenAs, IsStartValue, SpellsWorld, fresh_data, parts_data, start_flaw, start_world}
pub use Rattle.rd_trace.specs.Steps.{GoesTo, LoadsValue, MakesWorld, IsFaultOfEvents, SetsMarks}
pub use Rattle.rd_trace.specs.Texts.{AreAppended, IsMarkAppended, IsReadBack, IsSpelledBack, IsStartAppended, joined_text}
pub use Rattle.rd_trace.specs.Traces.{IsTraceRing, first_refused, session_at}
pub use Rattle.rd_trace.specs.Writing.{IsTextOf}
pub use Rattle.rd_trace.specs.declared.bookmarks.SavedMark.{SavedMark}
pub use Rattle.rd_trace.specs.declared.faults.TraceFault.{TraceFault}
pub use Rattle.rd_trace.specs.declared.faults.TraceFault.TheVariants.{BadTrace, Flawed, NoMemory, TraceMark, TraceStep}
pub use Rattle.rd_trace.specs.declared.starts.Start.{Start}
