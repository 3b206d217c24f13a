-- `split` yields the lines one after another, and each turn adds what one more line says. When
-- it yields no more, all lines were read.
use Rattle.rd_text.proofs.Prelude.{AllZip, rules, tests, ◌≡◌, ◌==◌, List, [], ◌∷◌, ◌++◌, map, refl, ◌∙◌, subst, Bor, ℕ, map-append, YieldsList-from_slice_split, Says}
use Rattle.rd_text.proofs.PartLemmas.{all_parts}
use Rattle.std.proofs.lemmas.Slice.Zip.{all_zipped_more}
use Rattle.rd_text.proofs.reading.whole_texts.lines.Goals as goal

pub loop-line-preserved : goal.loop-line-preserved
loop-line-preserved c =
    let pushed : c.push.new.self.items ≡ c.loop-line.said.items ++ c.parse_command.result ∷ [] = search rules in
    let given : map (λ (line : Bor (List ℕ)). line.now) (c.loop-line.yielded ++ c.in-Some.line ∷ []) ≡ map (λ (line : Bor (List ℕ)). line.now) c.loop-line.yielded ++ c.in-Some.line.now ∷ []
    = map-append _ c.loop-line.yielded (c.in-Some.line ∷ []) in
    let more = all_zipped_more Says _ c.loop-line.said.items c.in-Some.line.now c.parse_command.result c.loop-line.invariant c.parse_command.ensures.says in
    rw (pushed, given) more

pub returns-clause-ok : goal.returns-clause-ok
returns-clause-ok c =
    let all =
    all_parts c.loop-line.yielded _ c.loop-line.yielded_by _ _ c.in-None.is c.next.ensures.steps
    (YieldsList-from_slice_split _ (λ byte. byte == 10) c.without_last_feed.result.now (search rules) (search rules) refl (λ x r q k. search (rules, tests))) in
    subst (λ lines. AllZip Says lines c.loop-line.said.items) (all ∙ c.without_last_feed.ensures) c.loop-line.invariant
