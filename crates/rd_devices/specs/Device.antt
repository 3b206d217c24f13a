-- What calls do to sources and sinks, in terms of the bytes that a source has left and a sink has
-- taken. None stands for bytes that aren't known.
use mathlib.Core.List.{IsPrefix}
use Rattle.std.specs.Prelude.{ℕ, List, [], ◌∷◌, Option, Some, None}
use Rattle.std.specs.Io.KnownBytes.{Consumes, Appends, IsAtEnd}

-- the source gave this byte, or was at its end (None); its bytes went from `old` to `new`
abbrev pub GivesByte : Option (List ℕ) → Option (List ℕ) → Option ℕ → Type 0
GivesByte old new (Some byte) = Consumes old new (byte ∷ [])
GivesByte old new None = Consumes old new [] × IsAtEnd new

-- the sink took `part`, a beginning of the text; its bytes went from `old` to `new`
pub record TakesBeginning (old new : Option (List ℕ)) (text : List ℕ) : Type 0 where
  pub part : List ℕ
  pub took : Appends old new part
  pub begins : IsPrefix part text
