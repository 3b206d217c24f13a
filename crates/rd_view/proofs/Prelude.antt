-- The words that several proofs of the crate use: definitions of this crate and of those below,
-- generated types and their variants, and lemmas of these crates and of std.
pub use denote.Param.{number as number_of}
pub use Rattle.rd_cell.proofs.Prelude.{AllByRecursion, AllZip, AllZip-long, Bool, Err, Global, IfErr, List, None, Ok, OnOk, Option, Result, Some, Vec, [], ap, append-nil, append_assoc, arith, crosses, drop, drop_more, drop_of_length-le, false, length, length-map, map, map-append, nil_from_length, refl, sendable, subst, suc, sym, take, zero, ℕ, ∥∥₁_map, ◌++◌, ◌+◌, ◌<◌, ◌^◌, ◌∙◌, ◌∷◌, ◌≡◌, YieldsList-end, YieldsList-from_zip, YieldsList-turn, inl, inr, map-id, vec_capacity, vec_len, zip, ◌≤◌, ◌⊎◌}
pub use Rattle.rd_script.proofs.Prelude.{Book, BookState, Command, ParsedLine, Says, book_state, commands_of, line_answers, lines_of, report_of, answer_text}
pub use Rattle.rd_lock.proofs.Prelude.{Continues, next_seen, number, numbers_from, put_by, seen}
pub use Rattle.rd_desk.proofs.Prelude.{Answer, Ghosts, IsChain, IsDone, IsNewViewer, IsRefusalOfAsk, IsViewerOf, KnowsAfterAsk, KnowsWords, Pass, SeesAfter, entries, opened_state, own_same, viewer_entry}
pub use Rattle.rd_desk.proofs.OwnCalls.{own_answered, own_refused}
pub use Rattle.rd_desk.proofs.Sends.{book_with_history_send, desk_sync, seat_send}
pub use Rattle.rd_desk.specs.declared.desks.Desk.{Desk}
pub use Rattle.rd_desk.specs.declared.gates.DeskRefusal.TheVariants.{TicketsEnded}
pub use Rattle.rd_desk.specs.declared.histories.Call.{Call}
pub use Rattle.rd_desk.specs.declared.histories.History.{History}
pub use Rattle.rd_desk.specs.declared.recording.BookWithHistory.{BookWithHistory}
pub use Rattle.rd_text.specs.Headings.{heading_text}
pub use Rattle.rd_text.specs.declared.writing.headings.Heading.TheVariants.{Viewer}
pub use Rattle.rd_view.specs.Reports.{desk_line_answer, viewers_text, viewer_text}
pub use Rattle.rd_view.specs.Viewing.{AreAllAnswered, AreParsed, IsBusyOrNoMemory, IsViewed, TicketsStayEnded, ViewOf, ViewsScripts, AskedAll, recorded_calls, view_text}
pub use Rattle.rd_view.specs.declared.faults.ViewFault.{ViewFault}
pub use Rattle.std.proofs.lemmas.Iterator.Adapters.{YieldsList-from_vec}
pub use Rattle.rd_desk.specs.Asking.{IsLastCall, without_number}
pub use Rattle.rd_view.specs.Tasks.{IsTaskEnd, IsTaskJoined, IsTaskStarted}
pub use Rattle.std.proofs.lemmas.Slice.Zip.{all_zipped_more}
pub use Rattle.rd_script.specs.Conversation.{AreAnswered}
pub use Rattle.rd_devices.specs.declared.sources.Source.{Ghosts as SourceOf}
pub use Rattle.rd_devices.specs.declared.sinks.Sink.{Ghosts as SinkOf}
pub use Rattle.rd_devices.specs.declared.faults.ScriptFault.{ScriptFault}
pub use Rattle.rd_view.specs.Live.{AnswersLine, AnswersSaid, AreLiveEnds, AskedLive, CameOf, Conversed, IsLiveEnd, NumberedAnswer, NumberedLine, RunsLive, numbered_line, numbered_calls, numbered_lines, pass_of, viewer_end}
pub use Rattle.rd_text.specs.declared.answers.AnyRefusal.TheVariants.{Unread}
