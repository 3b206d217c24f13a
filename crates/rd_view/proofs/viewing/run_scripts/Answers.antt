use Rattle.rd_view.proofs.Prelude.{◌∙◌, arith, sym, subst, ap, length, AllZip-long, IsViewed, book_state, entries, viewers_text}
use Rattle.rd_view.proofs.ViewEnds.{AreAllAnswered-long}
use Rattle.rd_view.proofs.viewing.run_scripts.Goals as goal

pub run_over_desk-requires-after_bounds : goal.run_over_desk-requires-after_bounds
run_over_desk-requires-after_bounds g c κs within =
    let same = ap length c.as_slice.ensures.value in let long = AllZip-long _ _ _ c.in_ok-said.ensures in (omega arith, (omega (arith, c.requires.some), omega (arith, c.requires.few)))

pub text_of_view-requires : goal.text_of_view-requires
text_of_view-requires g c =
    ap length (c.as_slice-2.ensures.value ∙ sym c.as_slice.ensures.value) ∙ AreAllAnswered-long _ _ 1 c.as_slice.result.now c.in_ok-answered.answered.items c.in_ok-answered.ensures.ok.are_answered
    ∙ ap length (sym c.as_slice-3.ensures.value)

pub returns-clause-ok : goal.returns-clause-ok
returns-clause-ok g c = record {
  views = record {
    said = c.in_ok-said.said.items;
    answered = c.in_ok-answered.answered.items;
    are_parsed = c.in_ok-said.ensures;
    is_viewed = subst (λ xs. IsViewed (book_state c.args.book) xs c.in_ok-answered.answered.items (entries c.in_ok-answered.history)) c.as_slice.ensures.value c.in_ok-answered.ensures.ok;
  };
  text = c.in_ok-text.ensures ∙ (λ i. viewers_text 1 (c.as_slice-2.ensures.value i) (c.as_slice-3.ensures.value i) (c.len.ensures i));
  leaves = c.in_ok-answered.ensures.left;
}
