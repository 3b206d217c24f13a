use Rattle.rd_equivalence.proofs.Prelude.{ℕ, ◌≡◌, ◌<◌, ◌++◌, ◌∷◌, [], List, length, Vec, Global, get_or, ap, sym, ◌∙◌, arith, set, slice_get-get_or, NumberedStep, remaining_in, list_at, items_of}
use Rattle.rd_equivalence.proofs.ComparedSteps.{pushed}
use Rattle.rd_equivalence.proofs.steps_by_actor.StepsByActor.push_front.Goals as goal

pub returns-clause-ok : goal.returns-clause-ok
returns-clause-ok c n =
    let lists = c.args.self.now.steps.items in
    let a = c.args.entry.now.event.actor in
    let old = c.index_mut.result.now in
    let within : a < length lists = omega arith in
    let there : get_or lists a old ≡ old = sym (c.index_mut.ensures.value ∙ ap (λ (k : ℕ). get_or lists k old) c.from.ensures) in
    let before : list_at lists a ≡ old.items =
    ap items_of (slice_get-get_or lists a old within) ∙ ap (λ (l : Vec NumberedStep Global). l.items) there in
    ap (λ (k : ℕ). remaining_in (set lists k c.push.new.self) n) c.from.ensures
    ∙ pushed lists a c.push.new.self (record { at = c.args.at; entry = c.args.entry }) n within
    (c.in_ok-push.ensures.items ∙ ap (λ (l : List NumberedStep). l ++ record { at = c.args.at; entry = c.args.entry } ∷ []) (sym before))
