use Rattle.rd_view.proofs.Prelude.{◌≡◌, ◌∙◌, ◌+◌, ◌++◌, arith, ap, refl, sym, subst, drop, drop_more, drop_of_length-le, viewers_text, viewer_text}
use Rattle.rd_view.proofs.ReportLemmas.{whole_after_append}
use Rattle.rd_view.proofs.reports.text_of_view.Goals as goal

pub loop-i-preserved : goal.loop-i-preserved
loop-i-preserved c =
    let said = c.args.said.now in
    let answered = c.args.answered.now in
    let i = c.loop-i.i in
    let put = subst (λ xs. c.put_viewer.new.text.items ≡ c.loop-i.text.items ++ viewer_text (i + 1) xs c.index-answered-i.result) c.as_slice.ensures.value c.in_ok-put_viewer.ensures in
    let here : viewers_text (i + 1) (drop i said) (drop i answered) c.args.calls ≡ viewer_text (i + 1) c.index-said-i.result.items c.index-answered-i.result ++ viewers_text (i + 1 + 1) (drop (i + 1) said) (drop (i + 1) answered) c.args.calls =
    rw (drop_more said i c.index-said-i.result (omega arith), ← c.index-said-i.is, drop_more answered i c.index-answered-i.result (omega (arith, c.requires)), ← c.index-answered-i.is) refl in
    whole_after_append c.loop-i.text.items c.put_viewer.new.text.items (viewer_text (i + 1) c.index-said-i.result.items c.index-answered-i.result) _ (viewers_text (i + 1 + 1) (drop (i + 1) said) (drop (i + 1) answered) c.args.calls) _ put here c.loop-i.invariant

pub returns : goal.returns
returns c =
    c.in_ok-extend_from_slice.ensures.items ∙ ap (λ t. c.loop-i.text.items ++ t) (c.as_slice-2.ensures.value ∙ c.set_heading.ensures)
    ∙ ap (λ xs. c.loop-i.text.items ++ viewers_text (c.loop-i.i + 1) xs (drop c.loop-i.i c.args.answered.now) c.args.calls) (sym (drop_of_length-le c.args.said.now (omega arith))) ∙ c.loop-i.invariant
