-- The events of the deepest agreeing node begin the live ones. So what it has in common with the
-- node, the live events have too (`common_live`); and they have no more, since no node agrees with
-- more of them (`no_more_common`).
use Rattle.rd_marks.proofs.Prelude.{List, ◌++◌, ◌≤◌, take, lit<, ap, subst, length, ◌∙◌, arith, on_err_weaker, length-map, Entry, journal, state, entries_at, events, IsRunFrom, NeedsCopy, inr, refl, sym, ◌≡◌, ℕ, suc, take-length, take-take, Event, Begins, Node, Stretch, stretch_list, stretches_in, IsWithin, AgreesFor, IsDeepest, ◌+◌, MOST_STEPS, length-drop, drop_all}
use Rattle.rd_marks.proofs.Here.{live_along}
use Rattle.rd_marks.proofs.Starting.{entries_length, begins_shorter, stretch_within, events_length, events_of_first, first_events}
use Rattle.rd_marks.proofs.EntryLemmas.{switched, joined_events, lacks_room_to_go, may_switch}
use Rattle.rd_marks.proofs.bookmarks.Bookmarks.switch_to.Goals as goal

module _ (ss : List Stretch) where
  -- the live events have the first n in common with a node if a node whose events begin them has
  common_live : (b node : Node) (n : ℕ) (es live : List Event) → es ≡ live → n ≤ b.number → AgreesFor ss b.stretch b.number es
      → take n (entries_at ss b) ≡ take n (entries_at ss node) → take n live ≡ take n (events (entries_at ss node))
  common_live b node n es live same within along alike =
      let fact = take-take n b.number (events (stretch_list ss b.stretch)) in
      grind (arith, same, within, along, alike, take-take n b.number es, fact, first_events ss b n, events_of_first n (entries_at ss b), events_of_first n (entries_at ss node))

  -- the events of a node and the live ones have no more in common than the deepest node has of them
  no_deeper : (node : Node) (n m : ℕ) (es : List Event) → IsWithin ss node → IsDeepest ss n es → m ≤ node.number → m ≤ length es
      → take m es ≡ take m (events (entries_at ss node)) → m ≤ n
  no_deeper node n m es is deepest few within same =
      let fact = take-take (suc n) m (events (entries_at ss node)) in
      grind (arith, few, within, same, deepest node.stretch, stretch_within ss node is, first_events ss node (suc n), take-take (suc n) m es, fact)

  -- so they have no more in common than the node has with the deepest node
  no_more_common : (b node : Node) (n m : ℕ) (es : List Event) → IsWithin ss node → AgreesFor ss b.stretch b.number es → IsDeepest ss b.number es
      → ((k : ℕ) → k ≤ b.number → k ≤ node.number → take k (events (entries_at ss b)) ≡ take k (events (entries_at ss node)) → k ≤ n)
      → m ≤ node.number → m ≤ length es → take m es ≡ take m (events (entries_at ss node)) → m ≤ n
  no_more_common b node n m es is along deepest most few within same =
      let deep = no_deeper node b.number m es is deepest few within same in
      most m deep few (
      first_events ss b m deep ∙ sym (take-take m b.number (events (stretch_list ss b.stretch)) deep) ∙ ap (take m) along.alike
      ∙ take-take m b.number es deep ∙ same
      )

  -- if the node's events begin the live ones, all of them are found to be in common
  whole_common : (b node : Node) (n : ℕ) (es : List Event) → IsWithin ss node → AgreesFor ss b.stretch b.number es → IsDeepest ss b.number es
      → Begins (events (entries_at ss node)) es → n ≤ node.number
      → ((m : ℕ) → m ≤ b.number → m ≤ node.number → take m (events (entries_at ss b)) ≡ take m (events (entries_at ss node)) → m ≤ n) → node.number ≡ n
  whole_common b node n es is along deepest h within most =
      let ys = events (entries_at ss node) in
      let long = events_length ss node is in
      let all : take node.number es ≡ take node.number ys = grind (arith, h, long, take-length ys) in
      let few : node.number ≤ length es = omega (arith, begins_shorter ys es h, long) in
      omega (arith, within, no_more_common b node n node.number es is along deepest most (omega arith) few all)

pub deepest_agreeing_node-beginning-requires-clause-agrees : goal.deepest_agreeing_node-beginning-requires-clause-agrees
deepest_agreeing_node-beginning-requires-clause-agrees g c =
    (live_along (stretches_in c.args.self.now) c.args.session.now c.args.self.now.here c.truncated.result c.live-live.result c.live-live.ensures.events c.args.self.now.kept.lies c.requires.stands c.truncated.ensures.stretch
    (omega (arith, c.truncated.ensures.number)) (omega (arith, c.truncated.ensures.number, c.len.ensures))).1

pub switch-requires : goal.switch-requires
switch-requires g c =
    let ss = stretches_in c.args.self.now in
    let n = c.common_len-common.result in
    let said = c.common_len-common.ensures in
    let given = c.deref.ensures.value ∙ c.in-Ok.ensures.ok in
    let same = common_live ss c.deepest_agreeing_node-beginning.result c.args.node n (events c.live-live.result) (state c.args.session.now).live c.live-live.ensures.events said.first
    c.deepest_agreeing_node-beginning.ensures.agrees said.alike in
    let run = subst (λ (xs : List Entry). IsRunFrom (state c.args.session.now).start xs) c.live-live.ensures.entries c.live-live.ensures.run in
    let live = length-map c.live-live.result (λ (x : Entry). x.event) in
    let few : n + length c.deref.result.now ≤ MOST_STEPS =
    omega (arith, said.second, entries_length ss c.args.node c.requires.within, c.requires.run.few, ap length given, length-drop n (entries_at ss c.args.node)) in
    let may = may_switch (journal c.args.session.now) n c.deref.result.now (entries_at ss c.args.node) given run c.requires.run same in
    (lit< tt, (omega (arith, said.first, c.deepest_agreeing_node-beginning.ensures.agrees.enough, ap length c.live-live.ensures.entries, live), (few, may)))

pub returns-in-Err-clause-succeeds : goal.returns-in-Err-clause-succeeds
returns-in-Err-clause-succeeds g c =
    λ h. c.in-Err.ensures.succeeds (whole_common (stretches_in c.args.self.now) c.deepest_agreeing_node-beginning.result c.args.node c.common_len-common.result (events c.live-live.result) c.requires.within
    c.deepest_agreeing_node-beginning.ensures.agrees c.deepest_agreeing_node-beginning.ensures.deepest (grind (arith, c.live-live.ensures.events, h)) c.common_len-common.ensures.second c.common_len-common.ensures.most)

pub returns-in-Err-clause-err : goal.returns-in-Err-clause-err
returns-in-Err-clause-err g c =
    let ss = stretches_in c.args.self.now in
    let node = c.args.node in
    let n = c.common_len-common.result in
    let said = c.common_len-common.ensures in
    let deepest = c.deepest_agreeing_node-beginning in
    let live = c.live-live.ensures.events in
    let long = events_length ss node c.requires.within in (
      refl,
      inr (record {
        kept = n;
        common = record {
          first = omega (arith, said.first, deepest.ensures.agrees.enough, ap length live);
          second = omega (arith, said.second, long);
          alike = common_live ss deepest.result node n (events c.live-live.result) (state c.args.session.now).live live said.first deepest.ensures.agrees said.alike;
          most = λ m few within same.
              no_more_common ss deepest.result node n m (events c.live-live.result) c.requires.within deepest.ensures.agrees deepest.ensures.deepest said.most
              (omega (arith, within, long)) (omega (arith, few, ap length live)) (ap (take m) live ∙ same);
        };
        pieces = c.in-Err.ensures.err;
      }),
    )

pub returns-in-Ok-clause-ok : goal.returns-in-Ok-clause-ok
returns-in-Ok-clause-ok g c =
    let fact = switched c.switch.result (state c.args.session.now) (state c.switch.new.self) c.common_len-common.result c.deref.result.now (entries_at (stretches_in c.args.self.now) c.args.node) in
    let fact_2 = common_live (stretches_in c.args.self.now) c.deepest_agreeing_node-beginning.result c.args.node c.common_len-common.result (events c.live-live.result) (state c.args.session.now).live in
    grind (arith, c.deref.ensures.value, c.in-Ok.ensures.ok, c.switch.ensures.ok, fact_2, fact)

pub returns-in-Ok-clause-unchanged : goal.returns-in-Ok-clause-unchanged
returns-in-Ok-clause-unchanged g c = on_err_weaker c.switch.result (λ is. is.journal) c.switch.ensures.unchanged

pub returns-in-Ok-clause-succeeds : goal.returns-in-Ok-clause-succeeds
returns-in-Ok-clause-succeeds g c = λ h.
    let all = whole_common (stretches_in c.args.self.now) c.deepest_agreeing_node-beginning.result c.args.node c.common_len-common.result (events c.live-live.result) c.requires.within c.deepest_agreeing_node-beginning.ensures.agrees
    c.deepest_agreeing_node-beginning.ensures.deepest (grind (arith, c.live-live.ensures.events, h)) c.common_len-common.ensures.second c.common_len-common.ensures.most in
    let long = entries_length (stretches_in c.args.self.now) c.args.node c.requires.within in
    c.switch.ensures.succeeds (c.deref.ensures.value ∙ c.in-Ok.ensures.ok ∙ drop_all c.common_len-common.result (entries_at (stretches_in c.args.self.now) c.args.node) (omega (arith, all, long)))

pub returns-in-Ok-clause-err : goal.returns-in-Ok-clause-err
returns-in-Ok-clause-err g c =
    let ss = stretches_in c.args.self.now in
    let n = c.common_len-common.result in
    let said = c.common_len-common.ensures in
    let ys = entries_at ss c.args.node in
    let given = c.deref.ensures.value ∙ c.in-Ok.ensures.ok in
    let same = common_live ss c.deepest_agreeing_node-beginning.result c.args.node n (events c.live-live.result) (state c.args.session.now).live c.live-live.ensures.events said.first
    c.deepest_agreeing_node-beginning.ensures.agrees said.alike in
    let all = ap (λ (xs : List Entry). take n (state c.args.session.now).live ++ events xs) given ∙ joined_events n (state c.args.session.now).live ys same in
    let run = subst (λ (xs : List Entry). IsRunFrom (state c.args.session.now).start xs) c.live-live.ensures.entries c.live-live.ensures.run in
    let live = length-map c.live-live.result (λ (x : Entry). x.event) in
    let within : n ≤ length (journal c.args.session.now).live = omega (arith, said.first, c.deepest_agreeing_node-beginning.ensures.agrees.enough, ap length c.live-live.ensures.entries, live) in
    let may = may_switch (journal c.args.session.now) n c.deref.result.now ys given run c.requires.run same in
    lacks_room_to_go c.switch.result c.args.session.now n c.deref.result.now (events ys) (NeedsCopy ss c.args.node (state c.args.session.now).live) all within may c.switch.ensures.err
