-- Viewers that share no file, from one of them on: the first, and those after it.
use Rattle.std.proofs.Common.{◌≡◌, ◌<◌, ◌+◌, ◌-◌, ℕ, List, [], arith, drop, get_or, length, take}
use Rattle.std.specs.Prelude.{map}
use Rattle.std.specs.List.{AllByRecursion}
use Rattle.std.specs.Borrow.{Bor}
use Rattle.std.proofs.lemmas.List.{drop_more, length-drop, take_all}
use Rattle.clap.specs.Walk.{Text}
use Rattle.rd_options.specs.Options.{AreApart, IsApartFrom}

-- the texts of names
abbrev pub texts : List (Bor Text) → List Text
texts names = map (λ name. name.now) names

-- what stands where a list has no name
abbrev pub no_name : Bor Text
no_name = record { ref_ptr = (0, 0); now = [] }

-- the names from the j-th on, as a range cuts them out
pub later_names : (names : List (Bor Text)) (j : ℕ) → take (length names - j) (drop j names) ≡ drop j names
later_names names j = take_all (length names - j) (drop j names) (omega (arith, length-drop j names))

module _ (names : List (Bor Text)) (i : ℕ) (within : i < length names) where
  -- a viewer is apart from the others from the i-th on, counted from 0, if it is apart from that
  -- one and those after it, and then only
  pub from_all : (name : Text) → IsApartFrom name (get_or names i no_name).now × AllByRecursion (IsApartFrom name) (texts (drop (i + 1) names)) → AllByRecursion (IsApartFrom name) (texts (drop i names))
  from_all name apart = rw (drop_more names i no_name within) apart

  pub to_all : (name : Text) → AllByRecursion (IsApartFrom name) (texts (drop i names)) → IsApartFrom name (get_or names i no_name).now × AllByRecursion (IsApartFrom name) (texts (drop (i + 1) names))
  to_all name apart = rw (drop_more names i no_name within) at apart

  -- the viewers from the i-th on are apart if that one is apart from those after it, and they are
  -- apart, and then only
  pub from_apart : AllByRecursion (IsApartFrom (get_or names i no_name).now) (texts (drop (i + 1) names)) × AreApart (texts (drop (i + 1) names)) → AreApart (texts (drop i names))
  from_apart apart = rw (drop_more names i no_name within) apart

  pub to_apart : AreApart (texts (drop i names)) → AllByRecursion (IsApartFrom (get_or names i no_name).now) (texts (drop (i + 1) names)) × AreApart (texts (drop (i + 1) names))
  to_apart apart = rw (drop_more names i no_name within) at apart
