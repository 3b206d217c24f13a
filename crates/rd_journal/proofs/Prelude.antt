-- The words that several proofs of the crate use: definitions of this crate and of those below,
-- generated types and their variants, and lemmas of these crates and of std.
pub use borrow.Rule.Slice.PartMut.{mid_of, put_mid}
pub use Rattle.rd_cell.proofs.Prelude.{All, All-drop, All-take, Bool, Err, IfErr, IsOk, IsSend, IsSome, List, None, Ok, OnOk, Option, RattleType, Result, Some, [], ap, append-nil, append_assoc, arith, cases_Bool, cases_eq, common_steps, cond, cond-false, cond-true, count_by, crosses, drop, drop-append-le, drop-append_seam, drop-cons, drop-drop, drop-map, drop-set-lt, drop-take, drop_all, drop_at, drop_more, drop_of_length-le, eq-eqb, false, flat_map-append, get_or, get_or-le-sum_by, get_or-map, get_or-replicate, get_or-set_other, get_or-set_same, get_or-take, get_or_default, if◌then◌else◌, inl, inr, is_some, items_where_true, le-ltb, length, length-append, length-drop, length-map, length-set, length-take, length-take-le, lt-ltb, ltb-false, map, map-append, nat_lt, nat_tests, ne_eqb, ok_or, on_err_weaker, on_ok_weaker, option_map, or_from, or_parts, position_from, refl, rules, sendable, set, shape, slice_get, slice_get-get_or, slice_get-map, slice_get_cases, slice_get_past, struct_send, subst, suc, sum_by-append, sum_by-cons, sum_by-take-drop, sum_by_push, sym, take, take-add, take-append-drop, take-append-le, take-map, take-suc, take-take, take_all, take_at, take_more, take_more_set, true, vec_capacity, zero, ℕ, ◌++◌, ◌+◌, ◌-◌, ◌<◌, ◌==◌, ◌∙◌, ◌∷◌, ◌≡◌, ◌≢◌, ◌≤◌, ◌⊎◌}
pub use Rattle.rd_step.proofs.Prelude.{Content, IsFree, IsRunFrom, IsTakenOut, IsWellFormed, MOST_STEPS, Place, Ran, Refusal, Stepped, WasStepped, World, after, and_then, closure, closure_entries, depends, depends_on_any, events, first_dependant, items_where_false, made_segment, made_segment_at, makes_segment, model, numbered, preceded_by, result_map, room_returned, room_used, run, run_entries, step, unstep, without, without_closure}
pub use Rattle.rd_depend.proofs.Prelude.{Entry, Event, GivesRoom, HasRoomFor, HasRoomInstead, IsIndexOf, Middle, SegName, beginning, closure_from, commutes, first_step, last_position, middle, moved_to, run-cons, runs_to, is_listed_for, undoes, writes_to}
pub use Rattle.rd_depend.proofs.Results.{err_then, not_refused, ok_then}
pub use Rattle.rd_depend.proofs.JoinedRuns.{run_joined}
pub use Rattle.rd_depend.specs.declared.index.DependIndex.{DependIndex}
pub use Rattle.rd_step.proofs.PassedUp.{error_passed_up, fact_passed_up}
pub use Rattle.rd_step.proofs.Removal.{run_keeps_well_formed, run_stays_actor, taken_out}
pub use Rattle.rd_step.proofs.Room.{room_used_returned}
pub use Rattle.rd_step.proofs.Steps.{step_stages, with_actor-other}
pub use Rattle.rd_step.specs.Prelude.{room}
pub use Rattle.rd_journal.specs.Entries.{ahead_entries, entries_capacity, kept_entries, live_entries}
unfoldable pub use Rattle.rd_journal.specs.Entries.{all_entries}
pub use Rattle.rd_journal.specs.Journal.{IsRun, Journal, LeadsTo, entry_of, unless_depended}
pub use Rattle.rd_journal.specs.Laws.{IsClosureLast, IsMovedLast, IsStepAfter}
pub use Rattle.rd_journal.specs.Moves.{IsRunWithoutLast, IsAppendedToLive, IsMovedBack, IsMovedForward, IsRolledBack, IsRunWithout, IsSwitched, IsUndoneAlone, IsRunWithoutClosure, undo_at_answer, roll_answer}
pub use Rattle.rd_journal.specs.Numbers.{IsOrder, at_numbers}
pub use Rattle.rd_journal.specs.Room.{HasRoomToRedo, ActorsHaveRoom, AsksForMemory, LacksRoomToSwitch, room_returned_by, room_after_undoing}
pub use Rattle.rd_journal.specs.SessionFields.{IsSession, whole_journal}
unfoldable pub use Rattle.rd_journal.specs.SessionFields.{opened_with}
pub use Rattle.rd_journal.specs.Sessions.{AnswersAs, ahead, GoesAlongTrack, LacksRoomForEvents, MayRefuse, capacity, index, journal, state, track}
pub use Rattle.rd_journal.specs.State.{MayLackMemory, State, apply, back, forward, live_event, call_result_of, roll, run_of, state_of, step_after, switch, undo_at, undone_where_true, with_event}
pub use Rattle.rd_journal.specs.declared.entries.Entries.{Entries}
pub use Rattle.rd_journal.specs.declared.sessions.Session.{Session}
