use Rattle.rd_step.proofs.Prelude.{sym, ◌∙◌, subst, arith, Some, None, Place, restore, CanPutBack, contents}
use Rattle.rd_step.proofs.WorldLemmas.{made_whole, last_some, last_taken}
use Rattle.rd_step.proofs.fields.unmake_at.Goals as goal

pub unmake-requires : goal.unmake-requires
unmake-requires g c = grind (arith, made_whole, last_some)

pub returns-in-Some-clause-done : goal.returns-in-Some-clause-done
returns-in-Some-clause-done g c =
    let whole = made_whole c.args.place c.in-Some.name (sym c.made_segment_at.ensures ∙ c.in-Some.is) in
    let last = subst (λ (p : Place). CanPutBack (contents c.args.space.now) (Some p) None) whole c.requires.can in
    last_taken c.args.space.now (contents c.unmake.new.self) c.in-Some.name last c.unmake.ensures.gone
    ∙ (λ i. restore (Some (sym whole i)) None (contents c.args.space.now))

pub returns-in-Some-clause-room : goal.returns-in-Some-clause-room
returns-in-Some-clause-room g c = grind (arith, made_whole)
