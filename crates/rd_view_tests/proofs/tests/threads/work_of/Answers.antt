use Rattle.std.proofs.Common.{rules, ◌≡◌, ◌++◌, ◌∷◌, [], sym, subst}
use Rattle.std.specs.List.{AllByRecursion}
use Rattle.rd_desk.specs.Desks.{IsViewerOf}
use Rattle.rd_lock.proofs.Lists.{every_append}
use Rattle.rd_view_tests.proofs.tests.threads.work_of.Goals as goal

pub loop-viewer-preserved : goal.loop-viewer-preserved
loop-viewer-preserved g c = let i = c.loop-viewer.invariant in let viewer : _ × _ = (c.last_pass-pass.result, c.commands_of-commands.result) in
    let items : c.push.new.self.items ≡ c.loop-viewer.work.items ++ viewer ∷ [] = search rules in record {
      new = c.last_pass-pass.ensures.each;
      own = subst (AllByRecursion (λ viewer. IsViewerOf c.args.desk.now viewer.0)) (sym items)
          (every_append (λ viewer. IsViewerOf c.args.desk.now viewer.0) c.loop-viewer.work.items (viewer ∷ []) i.own (c.last_pass-pass.ensures.own, tt));
    }
