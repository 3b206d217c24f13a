use Rattle.std.proofs.Common.{rules}
use Rattle.std.proofs.lemmas.Result.{IfOk-weaker}
use Rattle.std.proofs.lemmas.Slice.Zip.{AllZip-long}
use Rattle.rd_segments.proofs.Prelude.{refl, some_contents, some_parts_contents}
use Rattle.rd_segments.proofs.PartsLemmas.{agree_by_name}
use Rattle.rd_segments.proofs.parts.parts_of_lists.Goals as goal

pub returns-clause-ok : goal.returns-clause-ok
returns-clause-ok g c =
    IfOk-weaker c.made_of_lists.result _ _ (λ parts h s q. agree_by_name _ (λ o. some_parts_contents o q) (λ o. some_contents o q) refl (λ x y made. search rules) _ _ h s) c.made_of_lists.ensures

pub returns-clause-number : goal.returns-clause-number
returns-clause-number g c = IfOk-weaker c.made_of_lists.result _ _ (λ parts h. AllZip-long _ _ _ h) c.made_of_lists.ensures
