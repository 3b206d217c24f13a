use Rattle.rd_text.proofs.Prelude.{Some, None, [], ◌∷◌, ap, ◌∙◌, sym, Decides-eqb, lines_of, strip_suffix_is}
use Rattle.rd_text.proofs.TextLemmas.{parts-of_ended, parts-of_unended}
use Rattle.rd_text.proofs.reading.whole_texts.without_last_feed.Goals as goal

pub returns-in-Some : goal.returns-in-Some
returns-in-Some c =
    let ended = strip_suffix_is Decides-eqb c.args.text.now (10 ∷ []) (Some c.in-Some.rest) c.in-Some.ensures.cases in
    parts-of_ended c.in-Some.rest.now ∙ ap lines_of (sym ended)

pub returns-in-None : goal.returns-in-None
returns-in-None c = parts-of_unended c.args.text.now c.requires (strip_suffix_is Decides-eqb c.args.text.now (10 ∷ []) None c.in-None.ensures.cases)
