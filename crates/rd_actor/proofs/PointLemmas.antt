-- The control points one by one: what holds of each in the list of all holds of any, and no two
-- have the same label.
use Rattle.std.proofs.Common.{◌≡◌, ℕ, suc, ◌<◌, if◌then◌else◌, List, [], ◌∷◌, length, get_or, bytes_eq, subst, arith, lit<}
use Rattle.std.proofs.lemmas.Bool.{cond_both}
use Rattle.rd_actor.specs.declared.actors.Pc.{Pc}
use Rattle.rd_actor.specs.declared.actors.Pc.TheVariants.{Idle}
use Rattle.rd_actor.specs.declared.actors.TheConstants.Pc.{ALL}
use Rattle.rd_actor.specs.Labels.{label}

-- the first control point of a list that has this label, or Idle if none has it
abbrev first_of : List Pc → List ℕ → Pc
first_of [] word = Idle
first_of (pc ∷ pcs) word = if bytes_eq word (label pc) then pc else first_of pcs word

-- each control point is the first in the list of all that has its label
first_of-label : (pc : Pc) → first_of ALL (label pc) ≡ pc
first_of-label pc = grind arith

-- what holds of Idle and of each control point of a list holds of the first that has a given label
holds_of_first : (P : Pc → Type 0) (pcs : List Pc) (word : List ℕ) → P Idle → ((k : ℕ) → k < length pcs → P (get_or pcs k Idle)) → P (first_of pcs word)
holds_of_first P [] word idle each = idle
holds_of_first P (pc ∷ pcs) word idle each =
    cond_both (bytes_eq word (label pc)) pc (first_of pcs word) P (λ h. each 0 (omega arith))
    (λ h. holds_of_first P pcs word idle (λ k below. each (suc k) (omega arith)))

-- what holds of each element of the list of all holds of every control point
pub each_point : (P : Pc → Type 0) → ((k : ℕ) → k < 34 → P (get_or ALL k Idle)) → (pc : Pc) → P pc
each_point P each pc = subst P (first_of-label pc) (holds_of_first P ALL (label pc) (each 0 (lit< tt)) each)
