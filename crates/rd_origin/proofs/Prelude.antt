-- The words that several proofs of the crate use: definitions of this crate and of those below,
-- generated types and their variants, and lemmas of these crates and of std.
pub use Rattle.rd_cell.proofs.Prelude.{Bool, Err, IfOk, IfOk-at_ok, IfSome, List, None, Ok, Option, Result, Some, [], after_write, after_some_write, and_parts, ap, append_assoc, arith, cases_Bool, cond-true, cond_both, contents_after, covers, drop, effect, performed_at, eqb-true, false, segment_holding, inl, inr, is_nothing, is_of_segment, length, no_access, not, operand, operate, option_and_then, refl, share, slice_get, some_covers, subst, suc, sym, take, take_at, true, wrote_by, zero, ℕ, ◌&&◌, ◌++◌, ◌-◌, ◌<◌, ◌==◌, ◌∙◌, ◌∷◌, ◌≡◌, ◌⊎◌}
pub use Rattle.rd_step.proofs.Prelude.{A2, Access, Act, Actor, Answer, B2, Content, Contents, E12, E8, Effect, IsWellFormed, Op, OpReply, Pc, Performed, Place, Q5, Ran, Refusal, Stepped, World, actor_fits, after, after_at, events, is_there, need, need_at, need_for_call, need_for_choice, numbered, perform, record_fits, result_map, run, step, step_outcome, value_to_put, words_fit_at, written}
pub use Rattle.rd_depend.proofs.Prelude.{Entry, Event, SegName, beginning, last_position, middle, one_further, run_events}
pub use Rattle.rd_journal.proofs.Prelude.{run_keeps_well_formed, step_stages}
pub use Rattle.rd_cell.proofs.AccessLemmas.{after_write-outside, holds_after_effect, is_cell_place, operand-covered}
pub use Rattle.rd_cell.specs.declared.operations.Operation.{Operation}
pub use Rattle.rd_cell.specs.declared.operations.Operation.TheVariants.{Cas2, Swap}
pub use Rattle.rd_origin.specs.Origins.{argument, last_call, begins_call, is_at, is_call, has_first_cell, origin_in, last_put, puts_from, puts_into, hands_out_value}
pub use Rattle.rd_origin.specs.Positions.{IsGreatest}
