use Rattle.rd_lock.proofs.Prelude.{◌≡◌, [], ◌∷◌, ◌++◌, map, sym, ap, ◌∙◌, subst, arith, map-append, AllByRecursion, IsEndedWith, IsOut, in_hand, lock_of, pass_view}
use Rattle.std.specs.Mem.Slots.{slots_items}
use Rattle.rd_lock.proofs.Ends.{ends, ends_alone}
use Rattle.rd_lock.proofs.Lists.{every_back, every_front, one_of}
use Rattle.rd_lock.proofs.PassLists.{popped}
use Rattle.rd_lock.proofs.Seats.{join_allowed}
use Rattle.rd_lock.proofs.tables.close_table.Goals as goal

pub loop-pass-init : goal.loop-pass-init
loop-pass-init g c = let is = c.in-Some.ensures.items in let last = c.in-Some.last in let out = subst (AllByRecursion IsOut) is c.requires.out in let mine = (every_back IsOut c.pop.new.self.items (last ∷ []) out).0 in
    let own = subst (AllByRecursion (λ pass. pass.seat.table_id ≡ c.args.table.shared.table_id)) is c.requires.own in record {
      table = (every_back _ c.pop.new.self.items (last ∷ []) own).0;
      out = mine;
      hand = last.hand ∙ ap in_hand mine;
      own = every_front _ c.pop.new.self.items (last ∷ []) own;
      each_out = every_front IsOut c.pop.new.self.items (last ∷ []) out;
      members = ap (λ l. map pass_view c.pop.new.self.items ++ l) (one_of last.seat.me.0.members last.alone) ∙ sym (ap (map pass_view) is ∙ map-append pass_view c.pop.new.self.items (last ∷ []));
    }

pub join_seat-requires : goal.join_seat-requires
join_seat-requires g c = let i = c.loop-pass.invariant in let is = c.in-Some-pop.ensures.items in let pass = c.in-Some-pop.pass in
    let out = (every_back IsOut c.pop-in-loop-pass.new.self.items (pass ∷ []) (subst (AllByRecursion IsOut) is i.each_out)).0 in (
      i.table,
      (every_back _ c.pop-in-loop-pass.new.self.items (pass ∷ []) (subst (AllByRecursion (λ pass. pass.seat.table_id ≡ c.args.table.shared.table_id)) is i.own)).0,
      pass.hand ∙ ap in_hand out,
      c.requires.table.0,
      join_allowed (lock_of g.T.Recorded.history g.T.Recorded.origin _ _) _ _ c.loop-pass.seat.me.0 pass.seat.me.0 i.out out,
    )

pub loop-pass-preserved : goal.loop-pass-preserved
loop-pass-preserved g c = grind (arith, every_front, popped)

pub returns-in_default-clause-ended : goal.returns-in_default-clause-ended
returns-in_default-clause-ended g c = let L = lock_of g.T.Recorded.history g.T.Recorded.origin c.args.table.shared.key.seats (g.T.Recorded.origin c.args.table.shared.key.value.value) in let none : [] ≡ map pass_view c.args.passes.items = grind arith in
    subst (λ ps. IsEndedWith L ps (slots_items c.close.result.words) (slots_items c.close.result.slots)) none (ends_alone L _ _ c.requires.table.1 c.close.ensures.values.2)

pub returns-clause-ended : goal.returns-clause-ended
returns-clause-ended g c = let L = lock_of g.T.Recorded.history g.T.Recorded.origin c.args.table.shared.key.seats (g.T.Recorded.origin c.args.table.shared.key.value.value) in let members : c.loop-pass.seat.me.0.members ≡ map pass_view c.args.passes.items = grind arith in
    subst (λ ps. IsEndedWith L ps (slots_items c.close_with.result.words) (slots_items c.close_with.result.slots)) members (ends L _ c.loop-pass.seat.me.0 _ _ c.loop-pass.invariant.out c.close_with.ensures.values.2)
