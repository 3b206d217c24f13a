-- The words that several proofs of the crate use: definitions of this crate and of those below,
-- generated types and their variants, and lemmas of these crates and of std.
pub use Rattle.rd_cell.proofs.Prelude.{AllByRecursion, Bool, Global, IsOk, IsPartitionPoint-from_clause, IsPartitionedBy-leb, List, None, Ok, OnOk, Option, Result, Some, Vec, [], and_from, ap, apart_from_distinct, append-nil, append_assoc, arith, before_first, cases_eq, common_steps, cond, cond-true, count_by, covers, drop, drop-drop, drop_of_length-le, eq-eqb, eqb-false, eqb-true, false, false≢true, find, find_at, get_or, if◌then◌else◌, index_half, inl, inr, is_err, is_nothing, is_some, last_or, leb, length, length-append, length-drop, length-take-le, list_any, list_any-append, map, nat_lt, nat_tests, not, option_map, option_map_or, or_cases, or_left, or_right, position_from, position_or_len, prefix_len-le-length, prefix_len_is, refl, rules, slice_get, slice_get-get_or, slice_get_past, some_covers, subst, suc, sym, take, take-append-drop, take_all, true, zero, ℕ, ◌&&◌, ◌*◌, ◌++◌, ◌+◌, ◌-◌, ◌/◌, ◌<◌, ◌==◌, ◌^◌, ◌||◌, ◌↔◌, ◌∙◌, ◌∷◌, ◌≡◌, ◌≢◌, ◌≤◌, ◌⊎◌}
unfoldable pub use Rattle.rd_cell.proofs.Prelude.{IsDistinct}
pub use Rattle.rd_step.proofs.Prelude.{Place, Ran, World, Wrote, closure, depends, depends_on_any, first_dependant, interfere, numbered, overlaps, run, some_overlap, without, written}
pub use Rattle.rd_cell.proofs.ListLemmas.{slice_get-push_other, slice_get-push_same}
pub use Rattle.rd_cell.proofs.PlaceLemmas.{some_overlap_of_covers, covers-refl, written-covers}
pub use Rattle.rd_cell.specs.declared.places.SegName.{SegName}
pub use Rattle.rd_step.proofs.Commute.{commutes}
pub use Rattle.rd_step.proofs.Equivalence.{equivalence_reflexive, run_events}
pub use Rattle.rd_step.proofs.Inverse.{undoes}
pub use Rattle.rd_step.proofs.RunParts.{Middle, beginning, first_step, middle, ran_on, run-cons, runs_to}
pub use Rattle.rd_step.proofs.Symmetry.{depends_symmetric}
pub use Rattle.rd_step.specs.Dependence.{AreLoneUndos, IsInClosure, closure_from, number_after_undos}
pub use Rattle.rd_step.specs.declared.entries.Entry.{Entry}
pub use Rattle.rd_step.specs.declared.entries.Event.{Event}
pub use Rattle.rd_depend.specs.Changes.{Adds, KeepsPositions, entry_keys}
pub use Rattle.rd_depend.specs.Index.{By, EndsWith, GivesRoom, HasRoomFor, HasRoomInstead, IsIndexOf, HasSameRoom, ListKey, Under, UsesRoom, capacity, kept, positions, positions_from, spare, touched_or_written, is_listed_for}
unfoldable pub use Rattle.rd_depend.specs.Keys.{row_in}
unfoldable pub use Rattle.rd_depend.specs.Lists.{IsMoved}
pub use Rattle.rd_depend.specs.KeyLaws.{key_eq-refl, key_eq-sym, key_eq-true}
pub use Rattle.rd_depend.specs.Keys.{some_key_eq, is_under, is_value_written, is_under_some, key_eq, search_key, value_key_of_place, whole_key}
pub use Rattle.rd_depend.specs.Lists.{AscendsFrom, IsAscending, contains, earlier, later, moved_position, lowered_and_rotated}
pub use Rattle.rd_depend.specs.Moved.{moved_to}
pub use Rattle.rd_depend.specs.Sharing.{ShareWrittenPlace, either_wrote, is_of_map, wrote}
pub use Rattle.rd_depend.specs.Tables.{HasLast, IsReady, IsReadyIfSome, KeepsLists, Lists, Moves, Puts, RemovesLast, capacity_at, capacity_in, some_capacity_at, is_kept_in, is_writes, kept_in, list_at, some_list_at, lists_of, spare_at, spare_in}
pub use Rattle.rd_depend.specs.Writers.{last_position, one_further, writes_to}
pub use Rattle.rd_depend.specs.declared.index.DependIndex.{DependIndex}
pub use Rattle.rd_depend.specs.declared.index.changing.EntryKey.{EntryKey}
pub use Rattle.rd_depend.specs.declared.index.changing.EntryKeys.{EntryKeys}
pub use Rattle.rd_depend.specs.declared.index.keys.Key.{Key}
pub use Rattle.rd_depend.specs.declared.index.keys.Key.TheVariants.{At, In}
pub use Rattle.rd_depend.specs.declared.index.table.Table.{Table}
