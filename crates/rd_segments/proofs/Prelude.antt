-- The words that several proofs of the crate use: definitions of this crate and of those below,
-- generated types and their variants, and lemmas of these crates and of std.
pub use Rattle.std.specs.Vec.{with_item}
pub use Rattle.rd_cell.proofs.Prelude.{All, All-head, All-tail, Bool, Err, Global, IfErr, IfOk, IsErrAnd, List, None, Ok, OnErr, OnOk, Option, Result, Some, Vec, [], and_from, and_left, and_right, ap, arith, cases_Bool, cases_lt, common_steps, cond-false, cond-true, drop, eq-eqb, eqb-false, false, false≢true, fun_ext, get_or, get_or-replicate, if◌then◌else◌, inl, inr, is_some, le-ltb, length, lt-ltb, nat_lt, ne_eqb, nil_from_length, on_err_weaker, option_map, refl, replicate, set, slice_get, slice_get-get_or, slice_get_cases, slice_get_past, slice_get_read, slice_get_within, subst, suc, sym, take, take_rest, true, vec_capacity, vec_len, zero, ℕ, ◌&&◌, ◌++◌, ◌+◌, ◌-◌, ◌<◌, ◌==◌, ◌∙◌, ◌∷◌, ◌≡◌, ◌≢◌, ◌≤◌, ◌⊎◌}
unfoldable pub use Rattle.rd_cell.proofs.Prelude.{number_made, number_made_from}
pub use Rattle.rd_ring.proofs.Prelude.{ArrSlot, Content, Contents, Done, MOST_SEGMENTS, Makes, Operates, OperatesOnContent, Operation, Place, Read, Refusal, RefusesMaking, Restores, SLOTS, SegName, second_test_decides, effect, everywhere, first_test_refutes, fresh_segment, segment_holding, is_of_array, is_of_segment, is_of_same_segment, is_there, make, name_eq, operand, operate, segment_contents, place_eq, restore, root, segment_of, slice_get-push_other, slice_get-push_same, slice_get-set_other, slice_get-set_same, slice_get-take_other, slice_get-take_same}
pub use Rattle.rd_cell.proofs.AccessLemmas.{performed_at-keeps_places, contents_after-commutes, holds_after_effect, after_write-inside, after_write-outside, interferes, is_cell_place, operate-keeps_places, operand-covered, perform-unaffected, make-place}
pub use Rattle.rd_cell.proofs.EffectLemmas.{Agrees, is_of_same_segment-segment_of, lift_effect, lift_operates, lift_restore, narrow_effect, not_covered_outside, not_written, operand_agrees, Operates-from_OperatesOn, OperatesOnContent-read}
pub use Rattle.rd_cell.proofs.PlaceLemmas.{interfere-sym, name_eq-refl, name_eq-true, written-covers}
pub use Rattle.rd_ring.specs.declared.segments.Segment.{Segment}
pub use Rattle.rd_segments.specs.Array.{array_contents_with, array_contents, fresh_array}
pub use Rattle.rd_segments.specs.Lists.{SetsSegmentOnly, AreFreshLists, IsOneFreshSegment, MakesNext, ListOf, by_name, element_in, segment_count, count_in, some_contents, contents_of_segments, contents_of_lists}
pub use Rattle.rd_segments.specs.Parts.{contents_of_parts, each_segment, some_parts_contents}
pub use Rattle.rd_segments.specs.Room.{AddsMakersRoom, KeepsMakersRoom, MakersRoom, ReturnsMakersRoom, UsesMakersRoom, makers_room, room_used, room_of_maker, room_in_list}
pub use Rattle.rd_segments.specs.SpaceFields.{contents_with, contents_of_fields, fresh_space}
pub use Rattle.rd_segments.specs.declared.array.ArrayParts.{ArrayParts}
