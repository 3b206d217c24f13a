-- An effect that is known at some of the places, as an effect on all places.
use Rattle.rd_cell.proofs.Prelude.{Wrote, both_ways, false_from_ne_true, some_covers, common_steps, ◌≡◌, true, false, Bool, inl, inr, sym, ◌∙◌, Option, Some, None, Result, Ok, Err, IfOk, arith, cases_Bool, IfOk-at_ok, SegName, Content, Operation, Refusal, is_of_segment, place_eq, is_of_same_segment, covers, segment_of, written, Contents, restore, operand, effect, Performed, operate, HasEffect, everywhere, Operates, OperatesOnContent, Restores, subst}
use Rattle.rd_cell.specs.declared.places.Place.{Place}
use Rattle.rd_cell.specs.declared.places.Wrote.TheVariants as wrote
use Rattle.rd_cell.specs.declared.operations.Answer.{Answer}
use Rattle.rd_cell.specs.declared.access.Done.{Done}
use Rattle.rd_cell.proofs.PlaceLemmas.{place_eq-true, written-covers}
use Rattle.rd_cell.proofs.AccessLemmas.{after_write-outside, after_write-same, operate-place}

-- two pairs of contents, old and new, agree: they are equal at the places at which we look, and all
-- other places are neither covered by p nor changed
pub record Agrees (looked_at : Place → Bool) (p : Place) (old new old' new' : Contents) : Type 0 where
  pub old_inside : (q : Place) → looked_at q ≡ true → old q ≡ old' q
  pub new_inside : (q : Place) → looked_at q ≡ true → new q ≡ new' q
  pub not_covered : (q : Place) → looked_at q ≡ false → covers p q ≡ false
  pub outside : (q : Place) → looked_at q ≡ false → new' q ≡ old' q

-- an access wrote no place that it didn't touch
pub not_written : (p : Option Place) (w : Wrote) (q : Place) → some_covers p q ≡ false → some_covers (written p w) q ≡ false
not_written p w q h = false_from_ne_true (some_covers (written p w) q) (λ k. both_ways (some_covers p q) h (written-covers p w q k))

-- an effect at p, seen at some places, is the effect on all places of contents that agree
pub lift_effect : (looked_at : Place → Bool) (p : Place) (does does' : Result Performed Refusal) (done : Done) (old new old' new' : Contents)
    → does' ≡ does → IfOk does (λ did. did.place ≡ Some p) → Agrees looked_at p old new old' new' → HasEffect looked_at does done old new
    → HasEffect everywhere does' done old' new'
lift_effect looked_at p does does' done old new old' new' same place agrees h = record {
  performed = h.performed;
  performs = same ∙ h.performs;
  keeps = h.keeps;
  leaves = λ q _.
      elim (cases_Bool (looked_at q)) [
        | inl e ↦
            sym (agrees.new_inside q e) ∙ h.leaves q e
            ∙ after_write-same (written h.performed.place h.performed.wrote) h.performed.given old old' q (agrees.old_inside q e)
        | inr e ↦
            let touched = IfOk-at_ok (λ (did : Performed). did.place ≡ Some p) h.performs place in
            agrees.outside q e ∙ sym (grind (arith, agrees.not_covered q e, after_write-outside, written-covers))
      ];
}

-- an operation at p, seen at some places, is done on all places of contents that agree
lift_operation : (looked_at : Place → Bool) (p : Place) (op : Operation) (o : Option Content) (done : Done) (old new old' new' : Contents)
    → operand old' p ≡ o → Agrees looked_at p old new old' new' → HasEffect looked_at (operate p op o) done old new
    → Operates everywhere p op done old' new'
lift_operation looked_at p op o done old new old' new' found agrees h = grind (arith, lift_effect, operate-place)

-- contents that agree have the same operand at p
pub operand_agrees : (looked_at : Place → Bool) (p : Place) (old new old' new' : Contents) → Agrees looked_at p old new old' new'
    → operand old' p ≡ operand old p
operand_agrees looked_at p old new old' new' agrees = grind arith

-- an operation, seen at some places, is done on all places of contents that agree
pub lift_operates : (looked_at : Place → Bool) (p : Place) (op : Operation) (done : Done) (old new old' new' : Contents)
    → Agrees looked_at p old new old' new' → Operates looked_at p op done old new → Operates everywhere p op done old' new'
lift_operates looked_at p op done old new old' new' agrees h = grind (arith, lift_operation, operand_agrees)

-- an old content put back at p, seen at some places, is put back in all places of contents that
-- agree
pub lift_restore : (looked_at : Place → Bool) (p : Place) (o : Option Content) (old new old' new' : Contents)
    → Agrees looked_at p old new old' new' → Restores looked_at p o old new → (q : Place) → new' q ≡ restore (Some p) o old' q
lift_restore looked_at p o old new old' new' agrees h q = grind arith

-- an effect on all places is also one as seen at some of them
pub narrow_effect : (looked_at : Place → Bool) (does : Result Performed Refusal) (done : Done) (old new : Contents)
    → HasEffect everywhere does done old new → HasEffect looked_at does done old new
narrow_effect looked_at does done old new h = grind arith

-- One place

-- an operation that writes nothing is done at a place that keeps its content
pub OperatesOnContent-read : (p : Place) (op : Operation) (old : Content) (answer : Answer) (done : Done)
    → effect op old ≡ Ok (record { answer = answer; writes = None }) → done ≡ record { place = Some p; old = Some old; answer = answer; wrote = wrote.Nothing }
    → OperatesOnContent p op done old old
OperatesOnContent-read p op old answer done does notes = grind arith

-- the contents before and after a change of p alone agree with p's own old and new content
pub agrees_at : (p : Place) (was now : Content) (old new : Contents) → ((q : Place) → covers p q ≡ place_eq p q) → old p ≡ Some was → new p ≡ Some now
    → ((q : Place) → place_eq p q ≡ false → new q ≡ old q) → Agrees (place_eq p) p (λ q. Some was) (λ q. Some now) old new
agrees_at p was now old new plain found left others = grind (arith, common_steps, place_eq-true)

-- an operation on the content of the place x is done at that place, if every other place stays as
-- it was
pub Operates-from_OperatesOn : (x p : Place) (op : Operation) (was now : Content) (old new : Contents) → p ≡ x → ((q : Place) → covers x q ≡ place_eq x q)
    → operand old x ≡ Some was → old x ≡ Some was → new x ≡ Some now → ((q : Place) → place_eq x q ≡ false → new q ≡ old q)
    → (r : Result Done Refusal) → IfOk r (λ done. OperatesOnContent p op done was now) → IfOk r (λ done. Operates everywhere p op done old new)
Operates-from_OperatesOn x p op was now old new at plain works found left others (Err e) h = tt
Operates-from_OperatesOn x p op was now old new at plain works found left others (Ok done) h =
    subst (λ (y : Place). OperatesOnContent y op done was now → Operates everywhere y op done old new) (sym at)
    (λ does. lift_operation (place_eq x) x op (Some was) done (λ q. Some was) (λ q. Some now) old new works (agrees_at x was now old new plain found left others) does) h

-- The places of one segment

-- the places of the same segment as p are the places of the segment to which p belongs
pub is_of_same_segment-segment_of : (p q : Place) (name : SegName) → segment_of p ≡ Some name → is_of_same_segment p q ≡ is_of_segment name q
is_of_same_segment-segment_of p q name h = grind arith

-- a place that belongs to a segment covers nothing outside of that segment
pub not_covered_outside : (p q : Place) (name : SegName) → segment_of p ≡ Some name → is_of_segment name q ≡ false → covers p q ≡ false
not_covered_outside p q name h other = grind arith
