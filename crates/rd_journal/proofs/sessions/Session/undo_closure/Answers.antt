-- The index is cut to the entries before the k-th, as `gather_closure` requires. Then the closure
-- is the end of a run of the same steps (`gathered_session`). So undoing as many of the last steps
-- undoes just the closure.
use Rattle.rd_journal.proofs.Prelude.{opened_with, common_steps, append-nil, length-take-le, take_at, drop_at, take-append-le, drop-append-le, model, room, closure_entries, without_closure, Entry, IsIndexOf, HasRoomFor, live_entries, ahead_entries, kept_entries, whole_journal, ◌≡◌, ◌∙◌, ◌-◌, List, [], ◌++◌, refl, ap, subst, arith, take, drop, length}
use Rattle.rd_journal.proofs.Calls.{back_start}
use Rattle.rd_journal.proofs.Finding.{cut_before}
use Rattle.rd_journal.proofs.RoomLemmas.{fits_none, fits_back, fits_turned}
use Rattle.rd_journal.proofs.RolledBack.{IsGatheredLast, gathered_session}
use Rattle.rd_journal.proofs.sessions.Session.undo_closure.Goals as goal

pub gather_closure-count-requires-clause-before : goal.gather_closure-count-requires-clause-before
gather_closure-count-requires-clause-before g c = grind (arith, take-append-le)

pub gather_closure-count-requires-clause-room : goal.gather_closure-count-requires-clause-room
gather_closure-count-requires-clause-room g c =
    let self = c.args.self.now in
    let n = c.args.k - 1 in
    subst (λ (es : List Entry). HasRoomFor c.cut_index.new.index es)
    (append-nil (drop n (kept_entries self.entries)) ∙ drop-append-le n (live_entries self.entries) (ahead_entries self.entries) (omega (arith, c.requires.position)))
    (fits_back self.index c.cut_index.new.index (drop n (kept_entries self.entries)) [] c.cut_index.ensures.room (fits_none self.index))

pub fill_index-requires : goal.fill_index-requires
fill_index-requires g c =
    let self = c.args.self.now in
    let live = live_entries self.entries in
    let ahead = ahead_entries self.entries in
    let k = c.args.k in
    let n = k - 1 in
    let index = c.truncate.new.self in
    let said = c.gather_closure-count.ensures in
    let len : length (take n live) ≡ n = length-take-le n live (omega (arith, c.requires.position)) in
    let kept : kept_entries c.gather_closure-count.new.self ≡ (without_closure live k ++ closure_entries live k) ++ ahead = λ i. said.live i ++ said.ahead i in
    let cut = cut_before live ahead k c.requires.some c.requires.position in
    let left : IsIndexOf index (take n live) =
    subst (λ (es : List Entry). IsIndexOf index es) (take_at (take n live) (closure_entries live k) n len) (c.truncate.ensures.left (take n live ++ closure_entries live k) said.index) in
    let long : n ≡ index.len = omega (arith, left.len, len) in
    let room : HasRoomFor index (closure_entries live k ++ (drop n (without_closure live k) ++ ahead)) =
    subst (λ (es : List Entry). HasRoomFor index (es ++ (drop n (without_closure live k) ++ ahead))) (drop_at (take n live) (closure_entries live k) n len)
    (fits_back c.gather_closure-count.new.index index (drop n (take n live ++ closure_entries live k)) (drop n (without_closure live k) ++ ahead)
    (c.truncate.ensures.room (take n live ++ closure_entries live k) said.index) said.room) in
    record {
      indexed = grind arith;
      room = grind (arith, fits_turned);
    }

pub invariant_of-self : goal.invariant_of-self
invariant_of-self g c =
    let self = c.args.self.now in
    let old = whole_journal (opened_with self.opened) (model self.world) self.entries in
    let mid = whole_journal (opened_with self.opened) (model self.world) c.gather_closure-count.new.self in
    let said = c.gather_closure-count.ensures in
    let gathered : IsGatheredLast c.args.k old mid = record { start = refl; world = refl; live = said.live; undone = said.ahead; len = said.len } in
    record {
      kept = gathered_session c.args.k old mid (room self.world) self.kept c.requires.some c.requires.position gathered;
      within = omega (arith, self.within, ap length said.ahead);
      indexed = c.fill_index.ensures;
    }

pub returns-clause-entries : goal.returns-clause-entries
returns-clause-entries g c = grind (arith, common_steps)

pub returns-clause-start : goal.returns-clause-start
returns-clause-start g c = back_start _ c.gather_closure-count.result _ c.undo_last.ensures.state
