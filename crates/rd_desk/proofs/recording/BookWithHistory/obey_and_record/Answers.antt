use Rattle.rd_desk.proofs.Prelude.{common_steps, arith, rules, refl, subst, sym, ◌≡◌, ◌≤◌, length, vec_len, vec_capacity, IsCapacity, book_state, entries}
use Rattle.rd_desk.proofs.HistoryLemmas.{left_by_one_more_call}
use Rattle.rd_desk.proofs.recording.BookWithHistory.obey_and_record.Goals as goal

pub invariant_of-self-clause-legal : goal.invariant_of-self-clause-legal
invariant_of-self-clause-legal g c = rw c.make_room.ensures.items c.args.self.now.legal

pub invariant_of-self-2-clause-legal : goal.invariant_of-self-2-clause-legal
invariant_of-self-2-clause-legal g c =
    left_by_one_more_call c.args.viewer (book_state c.args.self.now.opened.value) c.deref_mut.result.now c.obey.new.self (entries c.args.self.now.history) _ _ _ (rw c.deref_mut.ensures.value c.args.self.now.legal) c.obey.ensures.answer c.obey.ensures.start
    (rw (c.push_reserved.ensures.items, c.make_room.ensures.items) refl)

pub invariant_of-self-2-clause-grown : goal.invariant_of-self-2-clause-grown
invariant_of-self-2-clause-grown g c = subst IsCapacity (sym c.push_reserved.ensures.capacity) c.make_room.ensures.grown

pub returns-then-is_err-clause-recorded : goal.returns-then-is_err-clause-recorded
returns-then-is_err-clause-recorded g c =
    let kept = c.args.self.now in
    let full : vec_capacity kept.history.entries ≤ vec_len kept.history.entries = search rules in
    let same : vec_capacity kept.history.entries ≡ length (entries kept.history) = omega arith in
    (omega arith, c.make_room.ensures.items, subst IsCapacity same kept.grown)

pub returns-then-len-eq-MOST_CALLS-clause-full : goal.returns-then-len-eq-MOST_CALLS-clause-full
returns-then-len-eq-MOST_CALLS-clause-full g c = grind (arith, common_steps)

pub make_room-requires : goal.make_room-requires
make_room-requires g c = grind (arith, common_steps)

pub returns-then-is_err-clause-opened : goal.returns-then-is_err-clause-opened
returns-then-is_err-clause-opened g c = grind (arith, common_steps)

pub obey-requires : goal.obey-requires
obey-requires g c = grind (arith, common_steps)

pub returns-clause-recorded : goal.returns-clause-recorded
returns-clause-recorded g c = grind (arith, common_steps)

pub returns-clause-full : goal.returns-clause-full
returns-clause-full g c = grind (arith, common_steps)

pub returns-clause-opened : goal.returns-clause-opened
returns-clause-opened g c = grind (arith, common_steps)
