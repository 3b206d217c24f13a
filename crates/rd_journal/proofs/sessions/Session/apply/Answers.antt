-- Each call that can be refused leaves the steps as they were, and if the index lacks room for the
-- step, `unstep` takes the world back to where it was. So a refused event changes no step, and it
-- is refused for a cause that the state shows.
use Rattle.rd_journal.proofs.Prelude.{common_steps, ℕ, Err, ◌≡◌, ◌∙◌, ◌<◌, List, ◌++◌, length, take, drop, inl, inr, refl, sym, ap, subst, arith, opened_with, append-nil, take_all, take-append-le, drop-append_seam, Entry, HasRoomInstead, kept_entries, model, room, MOST_STEPS, error_passed_up, fact_passed_up, err_then, ok_then, IsAppendedToLive, whole_journal, live_entries, ahead_entries, journal}
use Rattle.rd_journal.proofs.Ahead.{with_undone, is_session, none_taken}
use Rattle.rd_journal.proofs.Calls.{apply_refused, apply_goes, longer_session, still, unchanged, may_refuse-state}
use Rattle.rd_journal.proofs.RoomLemmas.{stepped_back}
use Rattle.rd_journal.proofs.EntryLemmas.{full_entries}
use Rattle.rd_journal.proofs.Runs.{now_formed, just_stepped}
use Rattle.rd_journal.proofs.sessions.Session.apply.Goals as goal
use Rattle.rd_cell.specs.declared.refusal.Refusal.TheVariants as refusal

pub invariant_of-self : goal.invariant_of-self
invariant_of-self g c = grind (arith, still)

pub returns-in_err-make_room_for-clause-memory : goal.returns-in_err-make_room_for-clause-memory
returns-in_err-make_room_for-clause-memory g c = grind (arith, full_entries, error_passed_up, none_taken)

pub returns-in_err-make_room_for-clause-err : goal.returns-in_err-make_room_for-clause-err
returns-in_err-make_room_for-clause-err g c = may_refuse-state c.args.self.now c.args.event c.from_residual.result (returns-in_err-make_room_for-clause-memory g c)

pub returns-in_err-make_room_for-clause-unchanged : goal.returns-in_err-make_room_for-clause-unchanged
returns-in_err-make_room_for-clause-unchanged g c =
    fact_passed_up c.from_residual.result (unchanged c.args.self.now _ refl refl c.make_room_for.ensures.live c.make_room_for.ensures.ahead refl)

pub invariant_of-self-in-Break-branch-2 : goal.invariant_of-self-in-Break-branch-2
invariant_of-self-in-Break-branch-2 g c =
    let is = still c.args.self.now c.step.new.self c.make_room_for.new.self c.in_err-entry.ensures.unchanged c.make_room_for.ensures.live c.make_room_for.ensures.ahead
    (λ m. let used = c.in_err-entry.ensures.room.used m in omega arith) in
    record { kept = is.kept; within = is.within; indexed = is.indexed }

pub returns-in_err-entry-clause-memory : goal.returns-in_err-entry-clause-memory
returns-in_err-entry-clause-memory g c =
    let self = c.args.self.now in
    let old = journal self in
    let less : length old.live < MOST_STEPS = omega (arith, c.live_len.ensures, self.kept.few) in
    error_passed_up _ c.in_err-entry.field-0.0 c.from_residual-in_err-entry.result c.from_residual-in_err-entry.ensures.1 (
    elim c.in_err-entry.ensures.err [
      | inl h ↦ inl (apply_refused old c.args.event c.in_err-entry.field-0.0 (is_session self).runs less h)
      | inr h ↦ inr (h.0, record { not_full = less; asked = inr (inl h.1) })
    ])

pub returns-in_err-entry-clause-err : goal.returns-in_err-entry-clause-err
returns-in_err-entry-clause-err g c = may_refuse-state c.args.self.now c.args.event c.from_residual-in_err-entry.result (returns-in_err-entry-clause-memory g c)

pub returns-in_err-entry-clause-unchanged : goal.returns-in_err-entry-clause-unchanged
returns-in_err-entry-clause-unchanged g c =
    fact_passed_up c.from_residual-in_err-entry.result
    (unchanged c.args.self.now _ refl c.in_err-entry.ensures.unchanged c.make_room_for.ensures.live c.make_room_for.ensures.ahead refl)

pub unstep-requires : goal.unstep-requires
unstep-requires g c =
    let self = c.args.self.now in (
      omega (arith, c.step.new.self.small),
      (just_stepped (model self.world) (model c.step.new.self) c.args.event c.in_ok-entry.entry (now_formed (journal self) (is_session self).runs)
          c.in_ok-entry.ensures.ok).was,
    )

pub invariant_of-self-then-is_err : goal.invariant_of-self-then-is_err
invariant_of-self-then-is_err g c =
    let self = c.args.self.now in
    let back = (just_stepped (model self.world) (model c.step.new.self) c.args.event c.in_ok-entry.entry (now_formed (journal self) (is_session self).runs)
    c.in_ok-entry.ensures.ok).back in
    let is = still self c.unstep.new.world c.make_room_for.new.self (c.unstep.ensures.back ∙ back) c.make_room_for.ensures.live c.make_room_for.ensures.ahead
    (stepped_back (model self.world) (model c.step.new.self) c.args.event c.in_ok-entry.entry (room self.world) (room c.step.new.self) (room c.unstep.new.world)
    c.in_ok-entry.ensures.ok c.in_ok-entry.ensures.room.used c.unstep.ensures.room.returns) in
    record {
      kept = is.kept;
      within = is.within;
      indexed = err_then c.replace_in_index.result (sym c.is_err.ensures.value ∙ c.if-is_err.true) c.replace_in_index.ensures.err;
    }

pub returns-then-is_err-clause-memory : goal.returns-then-is_err-clause-memory
returns-then-is_err-clause-memory g c =
    let self = c.args.self.now in
    let old = journal self in
    let less : length old.live < MOST_STEPS = omega (arith, c.live_len.ensures, self.kept.few) in
    let gone : drop c.live_len-live.result (kept_entries c.make_room_for.new.self) ≡ ahead_entries self.entries = grind (arith, drop-append_seam) in
    let had = err_then c.replace_in_index.result (sym c.is_err.ensures.value ∙ c.if-is_err.true) c.replace_in_index.ensures.lacks in
    let lacks = subst (λ (es : List Entry). HasRoomInstead self.index es c.from_ref.result.now → ⊥) gone had in
    inr (
      refl,
      record {
        not_full = less;
        asked = inr (inr (record {
          after = record { world = model c.step.new.self; entry = c.in_ok-entry.entry };
          goes = c.in_ok-entry.ensures.ok;
          lacks = subst (λ (es : List Entry). HasRoomInstead self.index (ahead_entries self.entries) es → ⊥) c.from_ref.ensures.value lacks;
        }));
      },
    )

pub returns-then-is_err-clause-err : goal.returns-then-is_err-clause-err
returns-then-is_err-clause-err g c = may_refuse-state {X = ℕ × Entry} c.args.self.now c.args.event (Err refusal.NoMemory) (returns-then-is_err-clause-memory g c)

pub returns-then-is_err-clause-unchanged : goal.returns-then-is_err-clause-unchanged
returns-then-is_err-clause-unchanged g c =
    let self = c.args.self.now in
    let back = (just_stepped (model self.world) (model c.step.new.self) c.args.event c.in_ok-entry.entry (now_formed (journal self) (is_session self).runs)
    c.in_ok-entry.ensures.ok).back in
    unchanged self _ refl (c.unstep.ensures.back ∙ back) c.make_room_for.ensures.live c.make_room_for.ensures.ahead refl

pub invariant_of-self-2 : goal.invariant_of-self-2
invariant_of-self-2 g c =
    let self = c.args.self.now in
    let old = whole_journal (opened_with self.opened) (model self.world) self.entries in
    let new = whole_journal (opened_with self.opened) (model c.step.new.self) c.replace_after.new.self in
    let less : length old.live < MOST_STEPS = omega (arith, c.live_len.ensures, self.kept.few) in
    let whole : take c.live_len-live.result (live_entries c.make_room_for.new.self) ≡ old.live =
    ap (take c.live_len-live.result) c.make_room_for.ensures.live ∙ take_all c.live_len-live.result old.live (omega (arith, c.live_len-live.ensures)) in
    let longer : IsAppendedToLive c.in_ok-entry.entry old new = grind arith in
    let first : take c.live_len-live.result (live_entries c.make_room_for.new.self ++ ahead_entries c.make_room_for.new.self) ≡ take c.live_len-live.result (live_entries c.make_room_for.new.self) =
    grind (arith, take-append-le) in
    record {
      kept =
          longer_session old new c.args.event c.in_ok-entry.entry (room self.world) (room c.step.new.self) self.kept less
          c.in_ok-entry.ensures.ok refl longer;
      within = omega arith;
      indexed = grind (arith, append-nil, ok_then);
    }

pub returns-clause-ok : goal.returns-clause-ok
returns-clause-ok g c =
    let self = c.args.self.now in
    let old = journal self in
    let new = with_undone 0 (whole_journal (opened_with self.opened) (model c.step.new.self) c.replace_after.new.self) in
    let less : length old.live < MOST_STEPS = omega (arith, c.live_len.ensures, self.kept.few) in
    let whole : take c.live_len-live.result (live_entries c.make_room_for.new.self) ≡ old.live =
    ap (take c.live_len-live.result) c.make_room_for.ensures.live ∙ take_all c.live_len-live.result old.live (omega (arith, c.live_len-live.ensures)) in
    let longer : IsAppendedToLive c.in_ok-entry.entry old new = grind arith in
    apply_goes old new c.args.event c.in_ok-entry.entry (is_session self).runs less c.in_ok-entry.ensures.ok refl longer

pub live_len-requires : goal.live_len-requires
live_len-requires g c = grind (arith, common_steps)

pub live_len-live-requires : goal.live_len-live-requires
live_len-live-requires g c = grind (arith, common_steps)

pub make_room_for-requires : goal.make_room_for-requires
make_room_for-requires g c = grind (arith, common_steps)

pub step-requires : goal.step-requires
step-requires g c = grind (arith, common_steps)

pub from_ref-requires : goal.from_ref-requires
from_ref-requires g c = grind (arith, common_steps)

pub replace_in_index-requires-clause-indexed : goal.replace_in_index-requires-clause-indexed
replace_in_index-requires-clause-indexed g c = grind (arith, common_steps)

pub replace_in_index-requires-clause-within : goal.replace_in_index-requires-clause-within
replace_in_index-requires-clause-within g c = grind (arith, common_steps)

pub replace_in_index-requires-clause-few : goal.replace_in_index-requires-clause-few
replace_in_index-requires-clause-few g c = grind (arith, common_steps)

pub returns-then-is_err-clause-ok : goal.returns-then-is_err-clause-ok
returns-then-is_err-clause-ok g c = grind (arith, common_steps)

pub returns-then-is_err-clause-reply : goal.returns-then-is_err-clause-reply
returns-then-is_err-clause-reply g c = grind (arith, common_steps)

pub returns-then-is_err-clause-step : goal.returns-then-is_err-clause-step
returns-then-is_err-clause-step g c = grind (arith, common_steps)

pub returns-then-is_err-clause-order : goal.returns-then-is_err-clause-order
returns-then-is_err-clause-order g c = grind (arith, common_steps)

pub from_ref-requires-2 : goal.from_ref-requires-2
from_ref-requires-2 g c = grind (arith, common_steps)

pub replace_after-requires-clause-within : goal.replace_after-requires-clause-within
replace_after-requires-clause-within g c = grind (arith, common_steps)

pub replace_after-requires-clause-room : goal.replace_after-requires-clause-room
replace_after-requires-clause-room g c = grind (arith, common_steps)

pub replace_after-requires-clause-few : goal.replace_after-requires-clause-few
replace_after-requires-clause-few g c = grind (arith, common_steps)

pub returns-clause-reply : goal.returns-clause-reply
returns-clause-reply g c = grind (arith, common_steps)

pub returns-clause-step : goal.returns-clause-step
returns-clause-step g c = grind (arith, common_steps)

pub returns-clause-err : goal.returns-clause-err
returns-clause-err g c = grind (arith, common_steps)

pub returns-clause-memory : goal.returns-clause-memory
returns-clause-memory g c = grind (arith, common_steps)

pub returns-clause-order : goal.returns-clause-order
returns-clause-order g c = grind (arith, common_steps)

pub returns-clause-unchanged : goal.returns-clause-unchanged
returns-clause-unchanged g c = grind (arith, common_steps)
