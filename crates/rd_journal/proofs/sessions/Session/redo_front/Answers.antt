use Rattle.rd_journal.proofs.Prelude.{opened_with, common_steps, length-take, model, room, Entry, IsIndexOf, whole_journal, IsMovedForward, journal, List, refl, length, sym, ap, subst, arith, length-drop}
use Rattle.rd_journal.proofs.Ahead.{first_run, forward_undone}
use Rattle.rd_journal.proofs.Walks.{session_forward, room_first, state_forward}
use Rattle.rd_journal.proofs.sessions.Session.redo_front.Goals as goal

pub first_ahead-requires : goal.first_ahead-requires
first_ahead-requires g c = grind (arith, length-take)

pub step_all_again-requires : goal.step_all_again-requires
step_all_again-requires g c = grind (arith, first_run, room_first)

pub move_border_forward-requires : goal.move_border_forward-requires
move_border_forward-requires g c = grind (arith, length-take)

pub invariant_of-self : goal.invariant_of-self
invariant_of-self g c =
    let self = c.args.self.now in
    let old = whole_journal (opened_with self.opened) (model self.world) self.entries in
    let new = whole_journal (opened_with self.opened) (model c.step_all_again.new.world) c.move_border_forward.new.self in
    let n = c.args.n in
    let moved : IsMovedForward n old new = record { live = c.move_border_forward.ensures.live; undone = c.move_border_forward.ensures.ahead } in
    record {
      kept =
          session_forward n old new c.first_ahead.result (room self.world) (room c.step_all_again.new.world) refl self.kept c.first_ahead.ensures c.step_all_again.ensures.ran
          c.step_all_again.ensures.room moved;
      within = omega (arith, self.within, ap length moved.undone, length-drop n old.undone);
      indexed = subst (λ (es : List Entry). IsIndexOf self.index es) (sym c.move_border_forward.ensures.kept) self.indexed;
    }

pub returns-clause-entries : goal.returns-clause-entries
returns-clause-entries g c =
    let self = c.args.self.now in
    let old = whole_journal (opened_with self.opened) (model self.world) self.entries in
    forward_undone self.undone c.args.n old (whole_journal (opened_with self.opened) (model c.step_all_again.new.world) c.move_border_forward.new.self)
    (omega (arith, c.requires.enough, length-take self.undone old.undone)) (record { live = c.move_border_forward.ensures.live; undone = c.move_border_forward.ensures.ahead })

pub returns-clause-state : goal.returns-clause-state
returns-clause-state g c = state_forward c.args.n (journal c.args.self.now) _ c.requires.enough refl (returns-clause-entries g c)

pub returns-clause-along : goal.returns-clause-along
returns-clause-along g c = grind (arith, common_steps)
