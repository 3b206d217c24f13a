-- The words that several proofs use, of this crate and of those above: lemmas and definitions of
-- std and of this crate, and generated types.
pub use Rattle.std.proofs.Common.{All, BTreeMap, Bool, Bor, Contains, Decides, Err, Global, IfErr, IfNone, IfOk, IfSome, IsOk, IsSome, IsTrue, IsUtf8, List, MatchOption, None, Ok, OnErr, OnOk, Option, Result, Some, String, Vec, [], add-one, ap, append_assoc, ap₂, arith, codes, cond, decimal, drop, eq-eqb, eqb-true, false, get_or, if◌then◌else◌, inl, inr, insert, is_err, is_none, is_ok, is_some, le-leb, le-ltb, leb-true, length, length-append, length-drop, length-set, length-take, lit<, lt-ltb, ltb-true, map, map-id, max, nat_eq, nat_le, nat_lt, ne_eqb, not, ok_or, option_and_then, option_map, position, refl, remove, replicate, reverse, rules, set, slice_get, slice_index_or, string_bytes, subst, subst₂, suc, sum_by, sym, take, tests, true, true≢false, vec_capacity, vec_len, zero, ℕ, ◌%◌, ◌&&◌, ◌*◌, ◌++◌, ◌+◌, ◌-◌, ◌/◌, ◌<◌, ◌==◌, ◌^◌, ◌||◌, ◌↔◌, ◌∙◌, ◌∷◌, ◌≡◌, ◌≢◌, ◌≤◌, ◌⊎◌}
pub use Rattle.std.proofs.Crossing.{crosses, frees}
pub use Rattle.std.proofs.Math.ListN.{drop_of_length-le}
pub use Rattle.std.proofs.Math.Seq.{drop-append-add, drop-append_seam, drop-cons, drop-length, take-add, take-append-add, take-append_seam, take-length, take-suc, take-suc-set}
pub use Rattle.std.proofs.lemmas.Bool.{and_from, and_left, and_parts, and_right, both_ways, cases_Bool, cases_eq, cases_lt, cases_order, cond-false, cond-true, cond_both, eqb-false, false_from_ne_true, false≢true, ltb-false, or_cases, or_from, or_left, or_parts, or_right}
pub use Rattle.std.proofs.lemmas.Bool.Decides.{Decides-eqb, nat_tests}
pub use Rattle.std.proofs.lemmas.Grind.{common_steps, flat_map-append}
pub use Rattle.std.proofs.lemmas.Iterator.{YieldsList, YieldsList-from_zip}
pub use Rattle.std.proofs.lemmas.Iterator.Consumers.{YieldsList-end, YieldsList-turn}
pub use Rattle.std.proofs.lemmas.List.{append-nil, drop-append-le, drop-drop, drop-map, drop-set-lt, drop-take, drop_all, drop_at, drop_more, get_or-map, get_or-replicate, get_or-set_other, get_or-set_same, get_or-take, get_or_default, length-map, length-take-le, map-append, map_more, map_push, nil_from_length, reverse-append, take-append-drop, take-append-le, take-map, take-take, take_all, take_at, take_more, take_more_set, take_rest}
pub use Rattle.std.proofs.lemmas.List.Elements.{All-cons, All-contains, All-drop, All-head, All-map, All-nil, All-push, All-tail, All-take, Contains-append_cases, Contains-append_left, Contains-append_right, filter-append}
pub use Rattle.std.proofs.lemmas.List.Folds.{find_at, list_all-append, list_all-map, list_any-append}
pub use Rattle.std.proofs.lemmas.List.Sorted.{IsPartitionPoint-from_clause, IsPartitionedBy-leb, IsPermutation-cons, IsPermutation-middle, IsPermutation-sym, IsPermutation-trans}
pub use Rattle.std.proofs.lemmas.List.Sums.{get_or-le-sum_by, prefix_len-le-length, prefix_len_is, sum_by-append, sum_by-cons, sum_by-le, sum_by-take-drop, sum_by_push}
pub use Rattle.std.proofs.lemmas.Map.Keys.{IsDistinct-head, IsDistinct-push, IsDistinct-tail, apart_from_distinct}
pub use Rattle.std.proofs.lemmas.Option.{get_or_from_slice_get, none-some, same_Some, slice_get-get_or, slice_get-map, slice_get_cases, slice_get_past, slice_get_read, slice_get_within}
pub use Rattle.std.proofs.lemmas.Result.{IfOk-at_ok, IfOk-weaker, on_err_weaker, on_ok_weaker}
pub use Rattle.std.proofs.lemmas.Slice.Eq.{bytes_eq-Decides, strip_suffix_is}
pub use Rattle.std.proofs.lemmas.Slice.Zip.{AllZip-long}
pub use Rattle.std.proofs.lemmas.Str.{IsUtf8-from_ascii}
pub use Rattle.std.specs.Io.KnownBytes.{Appends, Consumes, IsAtEnd, Keeps}
pub use Rattle.std.specs.List.{AllByRecursion, AllZip, before_first, count_by, enumerate_from, find, items_where_true, join_with_byte, last_or, list_all, list_any, onto_first, position_from, position_or_len, range_with_len, slice_split, zip}
unfoldable pub use Rattle.std.specs.List.{IsDistinct}
pub use Rattle.std.specs.Option.{option_map_or, option_or, option_to_list, unwrap_or}
pub use Rattle.std.specs.Prelude.{IsPermutation, leb}
pub use Rattle.std.specs.Result.{IsErrAnd, IsOkAnd, result_err}
pub use denote.Param.Send.{IsSend, IsSync, part_keyless, recorded_send, recorded_sync, sendable, struct_send, struct_sync}
pub use denote.RattleType.{RattleType}
pub use denote.Struct.Declared.{shape}
pub use mathlib.Core.Logic.{∥∥₁_map}
pub use mathlib.Core.Path.{fun_ext}
pub use Rattle.rd_cell.specs.Access.{HasEffect, Operates, OperatesOnContent, Performed, Restores, contents_after, performed_at, everywhere, make, no_access, operate, perform}
unfoldable pub use Rattle.rd_cell.specs.Access.{number_made, number_made_from}
pub use Rattle.rd_cell.specs.Contents.{Contents, after_write, after_some_write, cell_of_halves, segment_holding, operand, restore, share}
pub use Rattle.rd_cell.specs.Operations.{Effect, adds, effect, read_answer, compares_and_swaps, wrote_by}
pub use Rattle.rd_cell.specs.Places.{covers, index_half, interfere, is_nothing, is_of_segment, is_of_cell, is_of_same_segment, name_eq, overlaps, place_eq, segment_of, some_covers, some_overlap, written}
pub use Rattle.rd_cell.specs.Results.{and_then, result_map}
pub use Rattle.rd_cell.specs.declared.cells.Cell.{Cell}
pub use Rattle.rd_cell.specs.declared.contents.Content.{Content}
pub use Rattle.rd_cell.specs.declared.operations.Operation.{Operation}
pub use Rattle.rd_cell.specs.declared.places.SegName.{SegName}
pub use Rattle.rd_cell.specs.declared.places.Wrote.{Wrote}
pub use Rattle.rd_cell.specs.declared.refusal.Refusal.{Refusal}
