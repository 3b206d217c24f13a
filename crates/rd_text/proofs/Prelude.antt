-- The words that several proofs of the crate use: definitions of this crate and of those below,
-- generated types and their variants, and lemmas of these crates and of std.
pub use Rattle.std.proofs.lemmas.Fmt.{IsAscii-decimal, decimal-digits_value, decimal_by_steps, decimal_digit, decimal_injective, first_decimal, parse-decimal}
pub use Rattle.std.proofs.lemmas.Str.Parse.{numerals_by_value, parse_plain, tells_digits}
pub use Rattle.std.specs.Prelude.{flat_map}
pub use Rattle.std.specs.Str.Parse.{ParsesUnsigned}
pub use Rattle.std.proofs.lemmas.Iterator.Splits.{YieldsList-from_slice_split}
pub use Rattle.rd_cell.proofs.Prelude.{AllZip, Bool, Bor, Decides-eqb, Err, IfNone, IfSome, IsOkAnd, IsUtf8-from_ascii, List, None, Ok, Option, Result, Some, YieldsList, YieldsList-end, YieldsList-turn, [], and_parts, ap, append_assoc, arith, common_steps, decimal, drop, eq-eqb, false, get_or, if◌then◌else◌, is_some, join_with_byte, length, list_all, list_all-append, map, map-append, nat_eq, nat_tests, ne_eqb, not, onto_first, refl, rules, slice_index_or, slice_split, strip_suffix_is, subst, suc, sym, take_rest, tests, true, true≢false, unwrap_or, ℕ, ◌%◌, ◌++◌, ◌+◌, ◌-◌, ◌<◌, ◌==◌, ◌^◌, ◌∙◌, ◌∷◌, ◌≡◌, ◌≢◌, ◌≤◌, ◌⊎◌}
pub use Rattle.rd_step.proofs.Prelude.{Place}
pub use Rattle.rd_marks.proofs.Prelude.{is_mark_name, is_name_byte}
pub use Rattle.rd_cell.specs.declared.places.SegName.{SegName}
pub use Rattle.rd_marks.specs.declared.commands.Command.{Command}
pub use Rattle.rd_text.specs.Calls.{command_text}
pub use Rattle.rd_text.specs.Contents.{segment_name_words}
pub use Rattle.rd_text.specs.Grammar.{AreArgumentsInRange, Argument, Byte, Choice, IsArgumentInRange, IsSegmentInRange, Kind, Long, Name, Segment, argument_words, arguments_of, keyword_of, keyword_text, kind_of, kind_text, names_after, place_arguments, word_of}
pub use Rattle.rd_text.specs.Lines.{IsOneLine, commands_of, ended_lines_of, lines_of}
pub use Rattle.rd_text.specs.Reading.{IsFaultOfNames, ReadsCommand}
pub use Rattle.rd_text.specs.Spelling.{IsSameCommand, IsInRange, IsMisnamed, AreMisnamed, Says, is_word, most_line_bytes, spelling}
pub use Rattle.rd_text.specs.Texts.{yes_or_no}
pub use Rattle.rd_text.specs.declared.faults.LineFault.{LineFault}
pub use Rattle.rd_text.specs.declared.reading.keywords.Keyword.{Keyword}
pub use Rattle.rd_text.specs.declared.reading.places.PlaceKind.{PlaceKind}
