-- The words that several proofs of the crate use: definitions of this crate and of those below,
-- generated types and their variants, and lemmas of these crates and of std.
pub use Rattle.rd_cell.proofs.Prelude.{AllByRecursion, Bool, Global, IfOk-weaker, IsSome, IsTrue, List, MatchOption, None, Ok, Option, Some, Vec, [], and_from, and_parts, ap, append_assoc, arith, common_steps, cond, drop, drop-cons, drop_all, enumerate_from, eqb-false, eqb-true, false, false≢true, filter-append, get_or, if◌then◌else◌, inl, inr, is_nothing, length, length-append, length-drop, length-map, list_any, map, map-append, name_eq, ne_eqb, nil_from_length, not, option_map, option_to_list, or_cases, or_from, or_parts, refl, reverse, reverse-append, rules, segment_of, set, slice_get, slice_get-get_or, slice_get_past, subst, suc, sym, take, take-map, take_all, true, zero, ℕ, ◌&&◌, ◌++◌, ◌+◌, ◌-◌, ◌<◌, ◌==◌, ◌||◌, ◌↔◌, ◌∙◌, ◌∷◌, ◌≡◌, ◌≢◌, ◌≤◌, ◌⊎◌}
pub use Rattle.rd_step.proofs.Prelude.{IsEquivalent, IsFree, IsRunFrom, Place, Ran, Stepped, World, Wrote, depends, events, run, run_entries, some_overlap, step, written}
pub use Rattle.rd_cell.proofs.ResultLemmas.{same_Ok}
pub use Rattle.rd_cell.proofs.ListLemmas.{slice_get-set_other, slice_get-set_same}
pub use Rattle.rd_cell.proofs.PlaceLemmas.{name_eq-refl, some_overlap-sym}
pub use Rattle.rd_cell.specs.declared.places.SegName.{SegName}
pub use Rattle.rd_step.proofs.Commute.{commutes}
pub use Rattle.rd_step.proofs.Equivalence.{goes_first, ran_through, equivalence_reflexive, run_events, stands_in, swapped_within}
pub use Rattle.rd_step.proofs.RunParts.{FirstStep, first_step, free_parts, middle, ran_on, run-cons, runs_to}
pub use Rattle.rd_step.proofs.Symmetry.{depends_symmetric}
pub use Rattle.rd_step.specs.declared.entries.Entry.{Entry}
pub use Rattle.rd_step.specs.declared.entries.Event.{Event}
pub use Rattle.rd_equivalence.specs.Beginnings.{Begins, NeitherBegins}
pub use Rattle.rd_equivalence.specs.ComparedSteps.{IsUnmatched, steps_by_actor, by_actor, remaining_in, remaining_steps, reached_of, reached_or_nothing, with_first}
pub use Rattle.rd_equivalence.specs.Equivalence.{DecidesEquivalence}
unfoldable pub use Rattle.rd_equivalence.specs.KeepingOrder.{with_step}
pub use Rattle.rd_equivalence.specs.KeepingOrder.{AreAlike, IsAfter, IsInOrder, KeepsOrder, Numbered, is_whole_segment, last_blocking, nothing_reached, raised, with_step_under, with_rest}
pub use Rattle.rd_depend.specs.KeyLaws.{key_eq-sym, key_eq-true}
pub use Rattle.rd_depend.specs.Keys.{is_under, is_value_written, is_under_some, key_eq, search_key, place_key, segment_key, value_key, value_key_of_place, whole_key}
pub use Rattle.rd_depend.specs.Tables.{items_of, list_at}
pub use Rattle.rd_depend.specs.declared.index.keys.Key.{Key}
pub use Rattle.rd_depend.specs.declared.index.keys.Key.TheVariants.{At, In}
pub use Rattle.rd_equivalence.specs.declared.steps_by_actor.NumberedStep.{NumberedStep}
pub use Rattle.rd_equivalence.specs.declared.keeping_order.Reached.{Reached}
