-- The words that several proofs of the crate use: definitions of this crate and of those below,
-- generated types and their variants, and lemmas of these crates and of std.
pub use Rattle.rd_cell.proofs.Prelude.{Bool, List, None, Ok, Option, Some, [], and_from, and_right, ap, ap₂, arith, cases_lt, cond-false, cond-true, cond_both, performed_at, eq-eqb, false, false_from_ne_true, get_or, if◌then◌else◌, inl, inr, le-ltb, length, lt-ltb, nat_lt, ne_eqb, option_map, read_answer, refl, result_map, set, slice_get, slice_get-get_or, slice_get_past, suc, sym, true, true≢false, zero, ℕ, ◌&&◌, ◌<◌, ◌==◌, ◌↔◌, ◌∙◌, ◌∷◌, ◌≡◌}
pub use Rattle.rd_cell.proofs.ListLemmas.{slice_get-push_other, slice_get-push_same, slice_get-set_other, slice_get-set_same, slice_get-take_other, slice_get-take_same}
pub use Rattle.rd_cell.proofs.TestLemmas.{second_test_decides, first_test_refutes}
pub use Rattle.rd_ring.specs.Prelude.{Access, Add, AddArray, Answer, ArrSlot, At, COUNTER_END, Cas2, CasName, CasNext, CasTail, Cell, Content, Contents, Done, Effect, HasEffect, MOST_ACTORS, MOST_CELLS, MOST_SEGMENTS, Make, Makes, NoPlace, Operates, OperatesOnContent, Operation, Performed, Place, Read, Refusal, RefusesMaking, Restores, SLOTS, SegName, Wrote, after_write, can_hold, cell_of_halves, contents_after, effect, everywhere, fresh_segment, segment_holding, is_of_array, is_of_segment, is_of_same_segment, is_there, make, name_eq, fresh_cell, operand, operate, perform, place_eq, restore, root, segment_of, share, cas_answer, cas_wrote, wrote_by}
pub use Rattle.rd_ring.specs.Segments.{OperatesAt, RefusesAt, RestoresAt, counters_fit, segment_contents, parts_contents}
