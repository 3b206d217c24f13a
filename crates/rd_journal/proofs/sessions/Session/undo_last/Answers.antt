use Rattle.rd_journal.proofs.Prelude.{◌-◌, ℕ, length, drop, refl, sym, ap, subst, arith, length-append, length-drop, List, opened_with, model, room, Entry, IsIndexOf, whole_journal, IsMovedBack, journal}
use Rattle.rd_journal.proofs.Ahead.{back_undone, track_back}
use Rattle.rd_journal.proofs.Runs.{live_lead}
use Rattle.rd_journal.proofs.Walks.{session_back, state_back}
use Rattle.rd_journal.proofs.sessions.Session.undo_last.Goals as goal

pub undo_after-requires : goal.undo_after-requires
undo_after-requires g c =
    let self = c.args.self.now in
    let old = whole_journal (opened_with self.opened) (model self.world) self.entries in (
      omega (arith, self.world.small),
      (omega (arith, ap length c.live.ensures, c.live_len.ensures), (old.start, live_lead old c.live.result self.kept.runs c.live.ensures)),
    )

pub invariant_of-self : goal.invariant_of-self
invariant_of-self g c =
    let self = c.args.self.now in
    let old = whole_journal (opened_with self.opened) (model self.world) self.entries in
    let new = whole_journal (opened_with self.opened) (model c.undo_after.new.world) c.move_border_back.new.self in
    let n = c.args.n in
    let k = length old.live - n in
    let moved : IsMovedBack n old new = record { live = c.move_border_back.ensures.live; undone = c.move_border_back.ensures.ahead } in
    record {
      kept =
          session_back n _ old new c.live.result (room self.world) (room c.undo_after.new.world) refl c.requires.enough self.kept c.live.ensures
          (ap (λ (m : ℕ). m - n) c.live_len.ensures) c.undo_after.ensures.leads c.undo_after.ensures.room moved;
      within = omega (arith, self.within, ap length moved.undone, length-append (drop k old.live) old.undone, length-drop k old.live, c.requires.enough);
      indexed = subst (λ (es : List Entry). IsIndexOf self.index es) (sym c.move_border_back.ensures.kept) self.indexed;
    }

pub returns : goal.returns
returns g c =
    let self = c.args.self.now in
    let old = whole_journal (opened_with self.opened) (model self.world) self.entries in
    let new = whole_journal (opened_with self.opened) (model c.undo_after.new.world) c.move_border_back.new.self in
    let n = c.args.n in
    let moved : IsMovedBack n old new = record { live = c.move_border_back.ensures.live; undone = c.move_border_back.ensures.ahead } in
    let of_undone = back_undone self.undone n old new c.requires.enough moved in
    record {
      entries = of_undone;
      state = state_back n (journal self) _ c.requires.enough refl of_undone;
      along = record { track = track_back n old new moved; index = refl; capacity = c.move_border_back.ensures.capacity };
    }
