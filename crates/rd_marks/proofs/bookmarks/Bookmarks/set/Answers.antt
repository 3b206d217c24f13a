-- If the stretches get no room, names and stretches are as they were (`stay`). Otherwise the new
-- node has just the live entries, and the renumbered nodes have the entries that they had
-- (`put_last`).
use Rattle.rd_marks.proofs.Prelude.{◌≡◌, ◌++◌, ◌∙◌, [], ◌∷◌, List, ap, arith, length-map, lookup-map_values, fact_passed_up, Entry, state, track, named_entries_in, here_entries, IsKept, named_entries, mark_name_eq, entries_at, events, option_map}
use Rattle.rd_marks.proofs.Counting.{all_along}
use Rattle.rd_marks.proofs.Here.{live_along, live_begin}
use Rattle.rd_marks.proofs.Putting.{IsSet, is_set, kept_same}
use Rattle.rd_marks.proofs.bookmarks.Bookmarks.set.Given.{Over}
use Rattle.rd_marks.proofs.bookmarks.Bookmarks.set.Goals.{After-here_after_growth-self, In_err-grown}
use Rattle.rd_marks.proofs.bookmarks.Bookmarks.set.Goals as goal

pub deepest_agreeing_node-at-requires-clause-agrees : goal.deepest_agreeing_node-at-requires-clause-agrees
deepest_agreeing_node-at-requires-clause-agrees g c =
    (live_along c.args.self.now.stretches.list.items c.args.session.now c.args.self.now.here c.truncated.result c.live-live.result c.live-live.ensures.events c.args.self.now.kept.lies c.requires.stands
    c.truncated.ensures.stretch (omega (arith, c.truncated.ensures.number)) (omega (arith, c.truncated.ensures.number, c.len.ensures))).1

pub add_bookmark-requires-clause-new : goal.add_bookmark-requires-clause-new
add_bookmark-requires-clause-new g c =
    let found = lookup-map_values (entries_at c.args.self.now.stretches.list.items) (mark_name_eq c.args.name) c.args.self.now.names.entries in
    grind (arith, option_map, c.reserve.ensures.entries, c.requires.new, found)

pub add_bookmark-requires-clause-low : goal.add_bookmark-requires-clause-low
add_bookmark-requires-clause-low g c =
    rw c.reserve.ensures.entries (λ k d inside. c.in_ok-grown.ensures.ok.low _ (c.args.self.now.kept.within k d inside))

pub here_after_growth-self-requires : goal.here_after_growth-self-requires
here_after_growth-self-requires g c = c.in_ok-grown.ensures.ok.low c.args.self.now.here c.args.self.now.kept.lies

pub returns-in_err-reserve-clause-runs : goal.returns-in_err-reserve-clause-runs
returns-in_err-reserve-clause-runs g c = grind (arith, c.reserve.ensures.entries, c.requires.runs)

-- where no room was made for the entries, all stays
stay : (g : Over) (c : In_err-grown g) → let b = c.args.self.now in let new = c.grow.new.self.list.items in
    IsKept new c.reserve.new.self.entries b.here × (named_entries new c.reserve.new.self.entries ≡ named_entries_in b) × (entries_at new b.here ≡ here_entries b)
stay g c = grind (arith, kept_same)

pub invariant_of-self-in-Break-branch-2 : goal.invariant_of-self-in-Break-branch-2
invariant_of-self-in-Break-branch-2 g c = record { kept = (kept_same _ _ c.in_err-grown.ensures.err _ _ _ c.reserve.ensures.entries c.args.self.now.kept).0 }

pub returns-in_err-grown-clause-runs : goal.returns-in_err-grown-clause-runs
returns-in_err-grown-clause-runs g c = rw (stay g (goal.at.returns-in_err-grown-clause-runs g c).In_err-grown).1 c.requires.runs

pub returns-in_err-grown-clause-stands : goal.returns-in_err-grown-clause-stands
returns-in_err-grown-clause-stands g c = rw (stay g (goal.at.returns-in_err-grown-clause-stands g c).In_err-grown).2 c.requires.stands

pub returns-in_err-grown-clause-succeeds : goal.returns-in_err-grown-clause-succeeds
returns-in_err-grown-clause-succeeds g c =
    let fact = all_along c.args.self.now.stretches.list.items c.args.self.now.names.entries c.deepest_agreeing_node-at.result.stretch c.deepest_agreeing_node-at.result.number (events c.live-live.result) c.deepest_agreeing_node-at.ensures.agrees
    c.deepest_agreeing_node-at.ensures.deepest in
    grind (arith, length-map, c.live-live.ensures.events, c.in_err-grown.ensures.succeeds, fact)

pub returns-in_err-grown-clause-unchanged : goal.returns-in_err-grown-clause-unchanged
returns-in_err-grown-clause-unchanged g c = fact_passed_up _ (stay g (goal.at.returns-in_err-grown-clause-unchanged g c).In_err-grown).1

-- where all was put
put_last : (g : Over) (c : After-here_after_growth-self g)
    → let b = c.args.self.now in IsSet (state c.args.session.now).start b.stretches.list.items c.grow.new.self.list.items b.names.entries c.add_bookmark.new.names.entries c.args.name c.live-live.result
    (track c.args.session.now) c.here_after_growth-self.result
put_last g c =
    let b = c.args.self.now in
    let live = c.live-live in
    let at = c.deepest_agreeing_node-at in
    is_set _ _ _ b.stretches.nested _ _ b.kept c.requires.few c.requires.runs live.result (record { few = live.ensures.few; ran = live.ensures.run }) _ c.requires.stands
    (live_begin c.args.session.now live.result live.ensures.events) at.result at.ensures.within at.ensures.agrees c.in_ok-grown.grown c.in_ok-grown.ensures.ok c.args.name _ _
    c.reserve.ensures.entries c.add_bookmark.ensures _ c.len-2.result c.here_after_growth-self.ensures.near c.here_after_growth-self.ensures.far

pub invariant_of-self-2 : goal.invariant_of-self-2
invariant_of-self-2 g c = record { kept = (put_last g (goal.at.invariant_of-self-2 g c).After-here_after_growth-self).kept }

pub returns-clause-ok : goal.returns-clause-ok
returns-clause-ok g c =
    (put_last g (goal.at.returns-clause-ok g c).After-here_after_growth-self).lists ∙ ap (λ (xs : List Entry). named_entries_in c.args.self.now ++ (c.args.name, xs) ∷ []) c.live-live.ensures.entries

pub returns-clause-runs : goal.returns-clause-runs
returns-clause-runs g c = (put_last g (goal.at.returns-clause-runs g c).After-here_after_growth-self).runs

pub returns-clause-stands : goal.returns-clause-stands
returns-clause-stands g c = (put_last g (goal.at.returns-clause-stands g c).After-here_after_growth-self).stands
