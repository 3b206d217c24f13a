-- Undoing leads back to the world after the first n steps. The given entries are those of a run
-- from there, so their steps can be made (`may_exchange`). Only the index can be refused memory,
-- before anything has changed.
use Rattle.rd_journal.proofs.Prelude.{◌≡◌, ◌∙◌, ◌≤◌, ℕ, List, ◌++◌, length, take, drop, refl, ap, subst, arith, opened_with, append-nil, length-take-le, take-append-le, drop_at, drop-append-le, error_passed_up, HasRoomInstead, model, room, Entry, IsIndexOf, whole_journal, live_entries, ahead_entries, journal}
use Rattle.rd_journal.proofs.Ahead.{with_undone, is_session}
use Rattle.rd_journal.proofs.Runs.{live_lead}
use Rattle.rd_journal.proofs.Switching.{may_exchange, exchanged}
use Rattle.rd_journal.proofs.sessions.Session.replace_steps_after.Goals as goal
use Rattle.rd_cell.specs.declared.refusal.Refusal.TheVariants as refusal

-- the entries after the first n are those that were put there
given_again : (l given again after now : List Entry) (n : ℕ) → n ≤ length l → again ≡ drop n after → after ≡ now → now ≡ take n l ++ given → again ≡ given
given_again l given again after now n within its same put = its ∙ ap (drop n) (same ∙ put) ∙ drop_at (take n l) given n (length-take-le n l within)

pub returns-in_err-replace_in_index-clause-err : goal.returns-in_err-replace_in_index-clause-err
returns-in_err-replace_in_index-clause-err g c =
    let self = c.args.self.now in
    let n = c.args.n in
    let live = live_entries self.entries in
    let ahead = ahead_entries self.entries in
    let gone : drop n (live ++ ahead) ≡ drop n live ++ ahead = drop-append-le n live ahead (omega (arith, c.requires.within)) in
    let lacks = subst (λ (es : List Entry). HasRoomInstead self.index es c.args.given.now → ⊥) gone c.in_err-replace_in_index.ensures.lacks in
    error_passed_up _ refusal.NoMemory c.from_residual.result c.from_residual.ensures.1 (refl, lacks)

pub undo_after-requires : goal.undo_after-requires
undo_after-requires g c =
    let self = c.args.self.now in
    let j = journal self in (
      omega (arith, self.world.small),
      (
        omega (arith, c.requires.within, ap length c.live.ensures),
        (j.start, live_lead j c.live.result (is_session self).runs c.live.ensures),
      ),
    )

pub step_all_again-requires : goal.step_all_again-requires
step_all_again-requires g c =
    let self = c.args.self.now in
    let j = journal self in (
      omega (arith, c.undo_after.new.world.small),
      may_exchange c.args.n j c.args.given.now c.after.result c.live.result (model c.undo_after.new.world) (room self.world) (room c.undo_after.new.world)
          (is_session self).runs c.live.ensures c.undo_after.ensures.leads c.undo_after.ensures.room c.requires.run c.requires.makings
          (given_again j.live c.args.given.now _ _ _ c.args.n c.requires.within c.after.ensures c.live-2.ensures c.replace_after.ensures.live),
    )

pub invariant_of-self-2 : goal.invariant_of-self-2
invariant_of-self-2 g c =
    let self = c.args.self.now in
    let j = journal self in
    let n = c.args.n in
    let given = c.args.given.now in
    let all : take n (live_entries self.entries ++ ahead_entries self.entries) ++ given ≡ live_entries c.replace_after.new.self ++ ahead_entries c.replace_after.new.self =
    grind (arith, take-append-le, append-nil) in
    record {
      kept =
          (exchanged n j (whole_journal (opened_with self.opened) (model c.step_all_again.new.world) c.replace_after.new.self) given c.after.result c.live.result (model c.undo_after.new.world) (room c.step_all_again.new.world)
          refl (is_session self).runs c.requires.within c.requires.few c.live.ensures c.undo_after.ensures.leads
          (given_again j.live given _ _ _ n c.requires.within c.after.ensures c.live-2.ensures c.replace_after.ensures.live) c.step_all_again.ensures.ran
          (record { live = c.replace_after.ensures.live; undone = c.replace_after.ensures.ahead })).session;
      within = omega arith;
      indexed = subst (λ (xs : List Entry). IsIndexOf c.replace_in_index.new.index xs) all c.in_ok-replace_in_index.ensures.ok;
    }

pub returns-clause-state : goal.returns-clause-state
returns-clause-state g c =
    let self = c.args.self.now in
    let j = journal self in
    let n = c.args.n in
    let given = c.args.given.now in
    (exchanged n j (with_undone 0 (whole_journal (opened_with self.opened) (model c.step_all_again.new.world) c.replace_after.new.self)) given c.after.result c.live.result (model c.undo_after.new.world) (room c.step_all_again.new.world)
    refl (is_session self).runs c.requires.within c.requires.few c.live.ensures c.undo_after.ensures.leads
    (given_again j.live given _ _ _ n c.requires.within c.after.ensures c.live-2.ensures c.replace_after.ensures.live) c.step_all_again.ensures.ran
    (record { live = c.replace_after.ensures.live; undone = refl })).state
