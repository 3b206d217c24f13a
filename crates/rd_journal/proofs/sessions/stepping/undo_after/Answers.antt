-- The steps not yet undone are those of a run that leads to the present world. So the last of them
-- can be undone, and the others are those of a run to the world before it.
use Rattle.rd_journal.proofs.Prelude.{◌≡◌, ℕ, ◌+◌, ◌-◌, ◌≤◌, List, take, drop, sym, ap, subst, arith, take_all, drop_all, World, model, room, Entry, LeadsTo, room_returned_by}
use Rattle.rd_journal.proofs.ListLemmas.{IsNumber, up_to_it, from_it}
use Rattle.rd_journal.proofs.Runs.{may_step_back}
use Rattle.rd_journal.proofs.sessions.stepping.undo_after.Goals as goal

pub loop-last-init : goal.loop-last-init
loop-last-init g c =
    let xs = c.args.steps.now in
    let all = c.len-last.result in
    record {
      from = omega (arith, c.requires.within, c.len-last.ensures);
      within = omega (arith, c.len-last.ensures);
      leads = λ start leads. subst (λ (ys : List Entry). LeadsTo start (model c.args.world.now) ys) (sym (take_all all xs (omega (arith, c.len-last.ensures)))) leads;
      room = grind (arith, drop_all);
    }

pub unstep-requires : goal.unstep-requires
unstep-requires g c =
    let xs = c.args.steps.now in
    let n = c.loop-last.last in
    let cut = up_to_it xs n c.at.result.now (record { some = omega (arith, c.loop-last.invariant.from); within = c.loop-last.invariant.within; here = c.at.ensures }) in
    let leads = c.loop-last.invariant.leads c.requires.leads.0 c.requires.leads.1 in (
      omega (arith, c.loop-last.world.small),
      (may_step_back c.requires.leads.0 (model c.loop-last.world) (take (n - 1) xs) c.at.result.now
          (subst (λ (ys : List Entry). LeadsTo c.requires.leads.0 (model c.loop-last.world) ys) cut leads)).was,
    )

pub loop-last-preserved : goal.loop-last-preserved
loop-last-preserved g c =
    let xs = c.args.steps.now in
    let n = c.loop-last.last in
    let x = c.at.result.now in
    let at : IsNumber xs n x = record { some = omega (arith, c.loop-last.invariant.from); within = c.loop-last.invariant.within; here = c.at.ensures } in
    let cut = up_to_it xs n x at in
    let behind = from_it xs n x at in
    record {
      from = omega arith;
      within = omega (arith, c.loop-last.invariant.within);
      leads = λ start first.
          subst (λ (w : World). LeadsTo start w (take (n - 1) xs)) (sym c.unstep.ensures.back)
          (may_step_back start (model c.loop-last.world) (take (n - 1) xs) x
          (subst (λ (ys : List Entry). LeadsTo start (model c.loop-last.world) ys) cut (c.loop-last.invariant.leads start first))).left;
      room = λ m.
          let more = ap (λ (ys : List Entry). room_returned_by ys m) behind in
          omega (arith, more, c.loop-last.invariant.room m, c.unstep.ensures.room.returns m);
    }

pub returns : goal.returns
returns g c =
    let end : c.loop-last.last ≡ c.args.n = omega (arith, c.loop-last.invariant.from) in
    record {
      leads = λ start leads.
          subst (λ (n : ℕ). LeadsTo start (model c.loop-last.world) (take n c.args.steps.now)) end (c.loop-last.invariant.leads start leads);
      room = λ m.
          subst (λ (n : ℕ). room c.args.world.now m + room_returned_by (drop n c.args.steps.now) m ≤ room c.loop-last.world m) end (c.loop-last.invariant.room m);
    }
