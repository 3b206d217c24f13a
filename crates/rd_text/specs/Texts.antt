-- Numbers, bits and choices as words of a text.
use Rattle.std.specs.Option.{option_map_or}
use Rattle.std.specs.Prelude.{ℕ, Bool, true, false, List, ◌∷◌, codes, Option}
use Rattle.std.specs.Fmt.{decimal}

-- a space and the decimal digits of a number
abbrev pub spaced_number : ℕ → List ℕ
spaced_number n = 32 ∷ decimal n

-- the decimal digits of a number, or a hyphen if there is none
abbrev pub number_or_hyphen : Option ℕ → List ℕ
number_or_hyphen o = option_map_or decimal o (codes "-")

-- a bit as a number, 0 or 1
abbrev pub bit_number : Bool → ℕ
bit_number false = 0
bit_number true = 1

-- a choice as a word, `yes` or `no`
abbrev pub yes_or_no : Bool → List ℕ
yes_or_no false = codes "no"
yes_or_no true = codes "yes"
