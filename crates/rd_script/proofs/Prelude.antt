-- The words that several proofs of the crate use: definitions of this crate and of those below,
-- generated types and their variants, and lemmas of these crates and of std.
pub use Rattle.std.proofs.KnownBytes.{Appends-kept, Appends-nil, Appends-trans, Consumes-nil, Consumes-trans}
pub use Rattle.std.specs.Prelude.{flat_map}
pub use Rattle.rd_cell.proofs.Prelude.{AllZip, Appends, Bool, Consumes, Err, IsAtEnd, IsErrAnd, Keeps, List, None, Ok, Option, Result, Some, [], ap, append-nil, append_assoc, arith, common_steps, drop, false, flat_map-append, inl, inr, length, length-append, length-drop, length-map, map, map-append, ne_eqb, nil_from_length, onto_first, refl, suc, sym, take, take-add, take-append-drop, take_rest, true, true≢false, ℕ, ◌++◌, ◌+◌, ◌-◌, ◌^◌, ◌∙◌, ◌∷◌, ◌≡◌, ◌≢◌, ◌≤◌, ◌⊎◌}
pub use Rattle.rd_marks.proofs.Prelude.{AreObeyed, BookState, Refusal, book_state, fact_passed_up, journal, session_of}
pub use Rattle.rd_marks.proofs.ObeyLemmas.{one_more_obeyed}
pub use Rattle.rd_marks.specs.declared.books.Book.{Book}
pub use Rattle.rd_marks.specs.declared.commands.Command.{Command}
pub use Rattle.rd_marks.specs.declared.replies.Reply.{Reply}
pub use Rattle.rd_text.specs.Lines.{commands_of}
pub use Rattle.rd_script.specs.Answers.{AnswersParsedLine, AreObeyedLines, line_answer, line_answers, report_of}
pub use Rattle.rd_script.specs.Conversation.{AreAnswered, CameToEnd, Converses, StoppedAtRead, StoppedAtWrite}
pub use Rattle.rd_devices.specs.Device.{GivesByte, TakesBeginning}
pub use Rattle.rd_text.specs.Lines.{IsOneLine, ParsedLine, ended_lines_of, lines_of}
pub use Rattle.rd_script.specs.NextLine.{Holds, ReadsLast, ReadsNext}
pub use Rattle.rd_text.specs.Replies.{LineAnswer, answer_text}
pub use Rattle.rd_script.specs.Script.{BookAnswers}
pub use Rattle.rd_text.specs.Spelling.{Says}
pub use Rattle.rd_devices.specs.Streams.{Devices, devices}
pub use Rattle.rd_text.specs.declared.answers.AnyRefusal.TheVariants.{Unread}
pub use Rattle.rd_text.specs.declared.faults.LineFault.{LineFault}
pub use Rattle.rd_devices.specs.declared.faults.ScriptFault.{ScriptFault}
pub use Rattle.rd_devices.specs.declared.faults.ScriptFault.TheVariants.{Read, Write}
pub use Rattle.rd_script.specs.declared.lines.Line.{Line}
