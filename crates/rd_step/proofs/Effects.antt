-- If an operation fits, and the content at its place fits, then what it writes and answers fits
-- too.
use Rattle.rd_step.proofs.Prelude.{◌≡◌, ℕ, true, arith, IfSome, IfOk, Place, Content, Operation, Effect, effect, Presence, content_fits}
use Rattle.rd_step.proofs.Fits.{op_fits, answer_fits, has_slot}
use Rattle.rd_cell.specs.declared.places.Place.TheVariants as place

-- an effect fits: what it writes fits the place, its answer fits, and a position drawn on the array
-- has a slot
abbrev pub EffectFits : ℕ → Presence → Place → Operation → Effect → Type 0
EffectFits R there p op e =
    IfSome e.writes (λ c. content_fits R there p c ≡ true) × (answer_fits R there e.answer ≡ true) × (has_slot op e.answer ≡ true)

-- an operation that fits has an effect that fits, on each content that fits the place
pub effect_fits : (R : ℕ) (there : Presence) (p : Place) (op : Operation) (c : Content) → op_fits R there p op ≡ true
    → content_fits R there p c ≡ true → IfOk (effect op c) (EffectFits R there p op)
effect_fits R there place.QHead op c f h = grind arith
effect_fits R there p op c f h = grind arith
