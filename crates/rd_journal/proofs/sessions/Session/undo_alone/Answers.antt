-- No later step depends on the k-th, so the others are a run without it, and `unstep` leads to that
-- run's world (`may_undo_at`). The entry and its position in the index move alike.
use Rattle.rd_journal.proofs.Prelude.{ℕ, refl, ◌∙◌, List, ap, sym, subst, arith, length, opened_with, model, room, Entry, IsIndexOf, moved_to, kept_entries, IsUndoneAlone, whole_journal}
use Rattle.rd_journal.proofs.Ahead.{alone_undone}
use Rattle.rd_journal.proofs.ListLemmas.{IsNumber}
use Rattle.rd_journal.proofs.LoneUndo.{may_undo_at, taken_out_front, taken_out_few}
use Rattle.rd_journal.proofs.RoomLemmas.{given_back}
use Rattle.rd_journal.proofs.sessions.Session.undo_alone.Goals as goal

pub unstep-requires : goal.unstep-requires
unstep-requires g c =
    let self = c.args.self.now in
    let old = whole_journal (opened_with self.opened) (model self.world) self.entries in
    let x = c.live_at.result.now in
    let at : IsNumber old.live c.args.k x = record { some = c.requires.some; within = c.requires.position; here = c.live_at.ensures } in
    (omega (arith, self.world.small), (may_undo_at old c.args.k x at c.requires.free self.kept.runs).was)

pub invariant_of-self : goal.invariant_of-self
invariant_of-self g c =
    let self = c.args.self.now in
    let old = whole_journal (opened_with self.opened) (model self.world) self.entries in
    let new = whole_journal (opened_with self.opened) (model c.unstep.new.world) c.make_next_ahead.new.self in
    let x = c.live_at.result.now in
    let at : IsNumber old.live c.args.k x = record { some = c.requires.some; within = c.requires.position; here = c.live_at.ensures } in
    let moved : IsUndoneAlone c.args.k old new = record { live = c.make_next_ahead.ensures.live; undone = c.make_next_ahead.ensures.ahead } in
    let may = may_undo_at old c.args.k x at c.requires.free self.kept.runs in
    let front = taken_out_front c.args.k old new x at moved in
    record {
      kept = record {
        few = taken_out_few c.args.k old new x at moved self.kept.few;
        runs = may.left new refl (c.unstep.ensures.taken_out may.was) moved;
        has_room = given_back old.undone new.undone x (room self.world) (room c.unstep.new.world) front self.kept.has_room c.unstep.ensures.room.returns;
      };
      within = omega (arith, self.within, ap length front);
      indexed =
          subst (λ (es : List Entry). IsIndexOf c.move_to.new.self es)
          (ap (λ (n : ℕ). moved_to (kept_entries self.entries) c.args.k n) c.live_len.ensures ∙ sym c.make_next_ahead.ensures.kept)
          (c.move_to.ensures.moved (kept_entries self.entries) self.indexed);
    }

pub returns : goal.returns
returns g c =
    let self = c.args.self.now in
    let old = whole_journal (opened_with self.opened) (model self.world) self.entries in
    let new = whole_journal (opened_with self.opened) (model c.unstep.new.world) c.make_next_ahead.new.self in
    let moved : IsUndoneAlone c.args.k old new = record { live = c.make_next_ahead.ensures.live; undone = c.make_next_ahead.ensures.ahead } in
    record {
      entries = alone_undone self.undone c.args.k old new c.requires.some c.requires.position moved;
      start = refl;
      capacity = c.make_next_ahead.ensures.capacity;
    }
