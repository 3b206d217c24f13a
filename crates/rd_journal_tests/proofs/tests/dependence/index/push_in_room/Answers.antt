use Rattle.std.proofs.Common.{◌≡◌, ℕ, suc, ◌+◌, List, ◌∷◌, drop, Some, slice_get, sym, subst, arith}
use Rattle.std.proofs.lemmas.Bool.{false≢true}
use Rattle.rd_step.specs.declared.entries.Entry.{Entry}
use Rattle.rd_depend.specs.declared.index.DependIndex.{DependIndex}
use Rattle.rd_depend.specs.Index.{HasRoomFor}
use Rattle.rd_depend.proofs.Elements.{drop-element}
use Rattle.rd_depend.proofs.IndexRoom.{room_left}
use Rattle.std.proofs.lemmas.Option.{slice_get-get_or}
use Rattle.rd_journal_tests.proofs.tests.dependence.index.push_in_room.Goals as goal

-- room for the entries from one on, as room for that one and the rest
room_from : (index : DependIndex) (es : List Entry) (n : ℕ) (x : Entry) → slice_get es n ≡ Some x → HasRoomFor index (drop n es)
    → HasRoomFor index (x ∷ drop (suc n) es)
room_from index es n x there has = subst (λ (l : List Entry). HasRoomFor index l) (drop-element es n x there) has

pub unreachable-requires : goal.unreachable-requires
unreachable-requires c =
    let es = c.args.entries.now in
    false≢true (c.in-Err.ensures.succeeds (drop (suc c.loop-at.at) es)
    (room_from c.loop-at.index es c.loop-at.at _ (slice_get-get_or es c.loop-at.at _ c.loop-at-test.true) c.loop-at.invariant))

pub loop-at-preserved : goal.loop-at-preserved
loop-at-preserved c =
    let es = c.args.entries.now in
    let next : c.loop-at.at + 1 ≡ suc c.loop-at.at = omega arith in
    subst (λ (n : ℕ). HasRoomFor c.push.new.self (drop n es)) (sym next)
    (room_left c.loop-at.index c.push.new.self _ c.in-Ok.ensures.room (drop (suc c.loop-at.at) es)
    (room_from c.loop-at.index es c.loop-at.at _ (slice_get-get_or es c.loop-at.at _ c.loop-at-test.true) c.loop-at.invariant))
