use Rattle.std.proofs.Common.{◌∙◌, codes, sym, ap, true≢false, ◌++◌}
use Rattle.std.proofs.lemmas.List.{append_cancel_right}
use Rattle.std.specs.Cmp.Lexicographic.{bytes_decides}
use Rattle.rd_options.proofs.names.is_replies_name.Goals as goal

pub returns-in-Some-clause-no : goal.returns-in-Some-clause-no
returns-in-Some-clause-no c = λ no is.
    let strips = c.in-Some.ensures.cases in
    let rest = c.in-Some.rest.now in
    let name = c.args.name.now in
    let ending = codes ".replies" in
    let same = append_cancel_right rest name ending (ap (λ t. t ++ ending) strips.2 ∙ sym strips.1.1 ∙ is) in
    true≢false (sym ((bytes_decides rest name).1 same) ∙ sym c.eq.ensures ∙ no)
