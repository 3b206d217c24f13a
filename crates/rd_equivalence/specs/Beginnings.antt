-- Whether one list begins with another.
use Rattle.std.specs.Prelude.{◌≡◌, List, length, take}

-- the second list begins with the first one: `IsPrefix` of the library, as a bare equation
abbrev pub Begins : {X : Type 0} → List X → List X → Type 0
Begins xs ys = take (length xs) ys ≡ xs

-- neither list begins with the other one
abbrev pub NeitherBegins : {X : Type 0} → List X → List X → Type 0
NeitherBegins xs ys = (Begins xs ys → ⊥) × (Begins ys xs → ⊥)
