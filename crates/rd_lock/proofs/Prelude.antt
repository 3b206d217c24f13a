-- The words that several proofs of the crate use: definitions of this crate and of those below,
-- generated types and their variants, and lemmas of these crates and of std.
pub use Rattle.std.proofs.Common.{drop, take, List, Option, Some, [], add-zero, ap, append_assoc, arith, cond, eq-eqb, eqb, get_or, inl, inr, length, map, ne_eqb, refl, rules, set, subst, suc, sym, vec_capacity, vec_len, zero, ℕ, ⊎_elim, ◌%◌, ◌++◌, ◌+◌, ◌-◌, ◌<◌, ◌^◌, ◌∙◌, ◌∷◌, ◌≡◌, ◌≢◌, ◌≤◌, ◌⊎◌}
pub use Rattle.std.proofs.lemmas.Grind.{common_steps}
pub use Rattle.std.proofs.lemmas.List.{append-nil, map-append, nil_from_length}
pub use Rattle.std.proofs.lemmas.Simd.{map-map}
pub use Rattle.std.specs.List.{AllByRecursion}
pub use mathlib.Core.List.{IsPrefix}
pub use mathlib.Core.Logic.{dite}
pub use mathlib.Core.Option.{some, some-injective, some-ne-none}
pub use Rattle.atomic_table.proofs.Lists.{at_last, at_longer, at_set, set_else, set_here}
pub use Rattle.atomic_table.specs.Table.{Act, Allows, Final, Joins, Me, Seen, Splits, State, Valid, carried_after, gives, homes_after, keeps, opening, takes}
pub use lib.ListN.{get_elem?}
pub use native.Mathlib.Decide.{ℕ_discrete}
pub use prog.Atomic.{either}
pub use Rattle.rd_lock.specs.Histories.{AddsOwn, Continues, NamesUpTo, with_positions, put_by, signed}
pub use Rattle.rd_lock.specs.Lists.{HasAllUpTo, AreComparable, IsIn, Pairwise, numbers_from, only}
pub use Rattle.rd_lock.specs.Locks.{IsOut, IsPassOf, IsSamePass, IsWaiting, pass_view, next_seen, number, seen}
pub use Rattle.rd_lock.specs.Opening.{IsClosedOver, IsEnded, IsEndedWith}
pub use Rattle.rd_lock.specs.Rule.{HaveDifferentPasses, LockState, HasPass, HasTicket, IsAloneAt, StateFits, IsPlaced, KnowsOpening, Lock, LockRule, MemberFits, Location, StageFits, ViewFits, away, home, in_hand, lock_of, newcomer, newcomers, pass_numbers, opening_view, single_slot, ticket, view_of}
pub use Rattle.rd_lock.specs.Steps.{Draws, IsFound, IsNewestNext, IsNewestServed, LoadsNext, LoadsServed, Polls, Releases, Tries, after_next, after_served, with_put, with_next_seen, with_served_seen}
pub use Rattle.rd_lock.specs.declared.passes.Pass.{Pass}
pub use Rattle.rd_lock.specs.declared.views.PassView.{PassView}
pub use Rattle.rd_lock.specs.declared.views.Recorded.{Ghosts}
pub use Rattle.rd_lock.specs.declared.views.Stage.{Stage}
pub use Rattle.rd_lock.specs.declared.views.Stage.TheVariants.{Holds, Out, Waits}
pub use Rattle.rd_lock.specs.declared.views.View.{View}
