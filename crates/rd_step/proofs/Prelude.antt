-- The words that several proofs of the crate use: definitions of this crate and of those below,
-- generated types and their variants, and lemmas of these crates and of std.
pub use Rattle.rd_cell.proofs.Prelude.{All, Bool, Err, Global, IfErr, IfOk, IfOk-at_ok, IfSome, IsErrAnd, IsOk, IsPermutation, IsPermutation-cons, IsPermutation-middle, IsPermutation-sym, IsPermutation-trans, IsSome, IsTrue, List, None, Ok, OnErr, Option, Result, Some, Vec, [], adds, after_some_write, and_from, and_parts, and_right, ap, ap₂, arith, both_ways, cases_Bool, cases_eq, cases_lt, common_steps, cond-false, cond-true, cond_both, covers, performed_at, eq-eqb, eqb-false, eqb-true, false, false_from_ne_true, fun_ext, get_or, if◌then◌else◌, inl, inr, is_none, is_nothing, is_ok, is_some, le-leb, le-ltb, leb-true, length, list_all, list_any, lt-ltb, ltb-true, nat_le, nat_lt, ne_eqb, no_access, not, ok_or, option_map, or_from, or_parts, refl, set, slice_get, slice_get-get_or, slice_get_cases, slice_get_past, some_covers, subst, subst₂, suc, compares_and_swaps, sym, true, vec_capacity, vec_len, zero, ℕ, ◌&&◌, ◌++◌, ◌+◌, ◌-◌, ◌<◌, ◌==◌, ◌||◌, ◌⊎◌, ◌↔◌, ◌∙◌, ◌∷◌, ◌≡◌, ◌≢◌, ◌≤◌}
unfoldable pub use Rattle.rd_cell.proofs.Prelude.{number_made, number_made_from}
pub use Rattle.rd_ring.proofs.Prelude.{Access, Add, AddArray, Answer, ArrSlot, At, COUNTER_END, Cas2, CasName, CasNext, CasTail, Cell, Content, Contents, Done, Effect, HasEffect, MOST_ACTORS, MOST_CELLS, MOST_SEGMENTS, Make, Makes, NoPlace, Operation, Performed, Place, RefusesMaking, SLOTS, SegName, Wrote, after_write, second_test_decides, can_hold, cell_of_halves, contents_after, counters_fit, effect, everywhere, first_test_refutes, segment_holding, is_of_array, is_of_segment, is_there, make, name_eq, operand, operate, parts_contents, perform, restore, root, share, slice_get-set_other, slice_get-set_same, wrote_by}
pub use Rattle.rd_segments.proofs.Prelude.{ListOf, performed_at-keeps_places, holds_after_effect, contents_after-commutes, after_write-inside, after_write-outside, by_name, element_in, contents_of_parts, segment_count, count_in, each_segment, fresh_space, interfere-sym, interferes, is_cell_place, operate-keeps_places, name_eq-refl, name_eq-true, not_written, operand-covered, some_parts_contents, perform-unaffected, room_used, written-covers, ReturnsMakersRoom, UsesMakersRoom}
pub use Rattle.rd_actor.specs.Actors.{calling, idle, poised}
pub use Rattle.rd_actor.specs.Table.{IsRepresentable, after, after_at, after_take, need, need_at, need_for_call, need_for_choice, value_to_put}
pub use Rattle.rd_actor.specs.Words.{words_fit, words_fit_at}
pub use Rattle.rd_actor.specs.declared.actors.Actor.{Actor}
pub use Rattle.rd_actor.specs.declared.actors.Op.{Op}
pub use Rattle.rd_actor.specs.declared.actors.Pc.{Pc}
pub use Rattle.rd_actor.specs.declared.actors.Pc.TheVariants.{A1, A2, B1, B2, B3, E1, E11, E12, E13, E14, E2, E3, E4, E5, E6, E7, E8, E9, Idle, Q1, Q10, Q11, Q12, Q13, Q14, Q2, Q3, Q4, Q5, Q6, Q7, Q8, Q9}
pub use Rattle.rd_cell.proofs.ListLemmas.{is_some-slice_get, slice_get-is_some}
pub use Rattle.rd_cell.proofs.ResultLemmas.{and_then_err, and_then_ok, ok_or_ok, same_Ok}
pub use Rattle.rd_ring.specs.declared.parts.SegmentParts.{SegmentParts}
pub use Rattle.rd_segments.proofs.CountLemmas.{absent_from, counts, numbered_absent, numbered_there, there_below}
pub use Rattle.rd_segments.proofs.RoomLemmas.{keeps_returns, keeps_uses, uses_passed_up, uses_too}
pub use Rattle.rd_segments.specs.Space.{array_words, contents, head_name, list_count, making_count, room, tail_name}
pub use Rattle.rd_segments.specs.declared.array.ArrayParts.{ArrayParts}
pub use Rattle.rd_segments.specs.declared.space.Space.{Space}
pub use Rattle.rd_step.specs.CodeWorldFields.{world_of_fields}
pub use Rattle.rd_step.specs.Equivalence.{IsEquivalent, IsIndependentOf, ReachesTheSame}
pub use Rattle.rd_step.specs.Laws.{ChangesOnly, CommutingSquare, IsRemovable, IsStepRefusal, IsTakenOut, KeepsOldWords, MovesOn, SuitsContent, WasStepped}
pub use Rattle.rd_step.specs.Lists.{numbered, without}
pub use Rattle.rd_step.specs.Parts.{array_fits, first_flaw, has_segment, indexes_fit, world_of_parts}
pub use Rattle.rd_step.specs.Prelude.{Act, IsFree, MOST_STEPS, OpReply, Ran, Refusal, Stepped, World, and_then, closure, closure_entries, depends, depends_on_any, first_dependant, interfere, items_where_false, model, overlaps, result_map, run, some_overlap, step, without_closure, written}
pub use Rattle.rd_step.specs.Room.{IsRefused, is_make, makes_segment, room_returned}
pub use Rattle.rd_step.specs.Run.{IsRunFrom, events, preceded_by, run_entries}
pub use Rattle.rd_step.specs.Starts.{actors_by, fresh_world, poised_world}
pub use Rattle.rd_step.specs.Step.{step_outcome, with_actor}
pub use Rattle.rd_step.specs.Undo.{CanPutBack, IsLast, unstep}
pub use Rattle.rd_step.specs.Made.{made_segment, made_segment_at}
pub use Rattle.rd_step.specs.WellFormed.{AreMade, IsNumbered, IsWellFormed, Presence, actor_fits, belongs, content_fits, index_end, index_within, is_actor, may_be_there, names_fit, next_fits, numbers_within, place_fits, record_fits, segments_named_fit}
pub use Rattle.rd_step.specs.declared.entries.Entry.{Entry}
pub use Rattle.rd_step.specs.declared.entries.Event.{Event}
pub use Rattle.rd_step.specs.declared.flaws.Flaw.{Flaw}
pub use Rattle.rd_step.specs.declared.parts.Parts.{Parts}
