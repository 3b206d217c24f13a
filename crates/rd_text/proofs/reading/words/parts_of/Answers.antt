-- `split` yields the parts one after another. When it yields no more, all were kept; if one
-- comes when four are kept, there are more than four.
use Rattle.rd_text.proofs.Prelude.{rules, tests, map, length, ap, ◌∙◌, ◌==◌, ◌≡◌, refl, arith, YieldsList-from_slice_split}
use Rattle.rd_text.proofs.PartLemmas.{more_parts, all_parts}
use Rattle.rd_text.proofs.reading.words.parts_of.Goals as goal

pub returns-then-is_err-clause-none : goal.returns-then-is_err-clause-none
returns-then-is_err-clause-none c =
    let full : length c.loop-part.parts.items ≡ 4 = search rules in
    let more =
    more_parts c.loop-part.yielded _ c.loop-part.yielded_by _ _ c.in-Some.part c.in-Some.is c.next.ensures.steps
    (YieldsList-from_slice_split _ (λ byte. byte == c.args.separator) c.args.text.now (search rules) (search rules) refl (λ x r q k. search (rules, tests))) in
    omega (arith, more, ap length c.loop-part.invariant, full)

pub returns-clause-some : goal.returns-clause-some
returns-clause-some c =
    let all =
    all_parts c.loop-part.yielded _ c.loop-part.yielded_by _ _ c.in-None.is c.next.ensures.steps
    (YieldsList-from_slice_split _ (λ byte. byte == c.args.separator) c.args.text.now (search rules) (search rules) refl (λ x r q k. search (rules, tests))) in
    ap (λ parts. map (λ part. part.now) parts) c.loop-part.invariant ∙ all
