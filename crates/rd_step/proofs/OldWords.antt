-- A step's entry keeps the words from before the step.
use Rattle.rd_step.proofs.Prelude.{◌≡◌, Ok, arith, World, Event, Stepped, step, IsWellFormed, KeepsOldWords}
use Rattle.rd_step.proofs.Steps.{each_step}

-- an entry keeps its actor's record and its place's content from before its step
pub keeps_old_words : (w : World) (e : Event) (s : Stepped) → IsWellFormed w → step w e ≡ Ok s → KeepsOldWords w s.entry
keeps_old_words w e s formed h =
    each_step w e (λ x. KeepsOldWords w x.entry) (λ a has needs. grind arith) (λ a p op c f has needs found does. grind arith) (λ a x has needs below. grind arith) s h
