use Rattle.rd_marks.proofs.Prelude.{◌≡◌, ◌≤◌, [], ℕ, List, length, take, lit<, refl, subst, ap, ◌∙◌, arith, fact_passed_up, Event, Begins, state, track, Bookmarks, Node, here_entries, entries_at, stretches_in, IsWithin, events, take-length}
use Rattle.rd_marks.proofs.Here.{along_to}
use Rattle.rd_marks.proofs.Starting.{begins_shorter, events_length}
use Rattle.rd_marks.proofs.bookmarks.Bookmarks.go_to.Goals as goal

-- the entries of the node begin the track
on_track : (b : Bookmarks) (node : Node) (steps : List Event) (c : ℕ) → IsWithin (stretches_in b) node → Begins (events (here_entries b)) steps → c ≤ b.here.number
    → take c (here_entries b) ≡ take c (entries_at (stretches_in b) node) → c ≡ node.number → (node.number ≤ length steps) × (take node.number steps ≡ events (entries_at (stretches_in b) node))
on_track b node steps c is stands first alike all =
    along_to b.stretches.list.items node b.here steps is b.kept.lies stands node.number refl (omega (arith, first, all))
    (subst (λ (n : ℕ). take n (here_entries b) ≡ take n (entries_at (stretches_in b) node)) all alike)

pub go_along_track-requires : goal.go_along_track-requires
go_along_track-requires g c = (
  lit< tt,
  (on_track c.args.self.now c.args.node (track c.args.session.now) c.common_len.result c.requires.within c.requires.stands c.common_len.ensures.first c.common_len.ensures.alike (omega (arith, c.if-common_len-node.true))).0,
)

pub returns-then-common_len-node-clause-ok : goal.returns-then-common_len-node-clause-ok
returns-then-common_len-node-clause-ok g c =
    c.go_along_track.ensures.state
    ∙ ap (λ (es : List Event). record { start = (state c.args.session.now).start; live = es; undone = [] })
    (on_track c.args.self.now c.args.node (track c.args.session.now) c.common_len.result c.requires.within c.requires.stands c.common_len.ensures.first c.common_len.ensures.alike (omega (arith, c.if-common_len-node.true))).1

pub returns-in_err-switch_to-clause-unchanged : goal.returns-in_err-switch_to-clause-unchanged
returns-in_err-switch_to-clause-unchanged g c = fact_passed_up c.from_residual.result c.in_err-switch_to.ensures.unchanged

pub returns-in_err-switch_to-clause-along : goal.returns-in_err-switch_to-clause-along
returns-in_err-switch_to-clause-along g c = λ h.
    let b = c.args.self.now in
    let es = events (entries_at (stretches_in b) c.args.node) in
    let short = begins_shorter es (events (here_entries b)) h in
    let long = events_length b.stretches.list.items in
    grind (arith, h, short, long c.args.node c.requires.within, long b.here b.kept.lies, take-length es, c.common_len.ensures.second, c.common_len.ensures.most c.args.node.number, c.if-common_len-node.false)
