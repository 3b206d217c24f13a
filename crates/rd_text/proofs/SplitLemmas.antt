-- Parts without a byte, joined by it, are cut at it into the same parts again.
use Rattle.rd_text.proofs.Prelude.{◌≡◌, ℕ, ◌+◌, ◌%◌, ◌<◌, ◌^◌, ◌==◌, Bool, true, false, not, ne_eqb, eq-eqb, List, [], ◌∷◌, ◌++◌, refl, sym, ◌∙◌, ap, arith, list_all, slice_split, join_with_byte, decimal, decimal_by_steps, list_all-append}
use Rattle.std.specs.List.{All, AllByRecursion}
use Rattle.std.proofs.lemmas.List.Elements.{All-weaker}
use Rattle.std.proofs.lemmas.List.Splits.{slice_split_none, slice_split_at, join_with_byte-slice_split}
use Rattle.std.proofs.lemmas.List.Sums.{AllPass-from_list_all}

-- the byte is not in the part
abbrev pub is_free : ℕ → List ℕ → Bool
is_free c part = list_all (λ byte. not (byte == c)) part

-- the byte is in none of the parts
abbrev pub AreFree : ℕ → List (List ℕ) → Type 0
AreFree c parts = AllByRecursion (λ part. is_free c part ≡ true) parts

not_true : (a : Bool) → not a ≡ true → a ≡ false
not_true a e = grind arith

-- no byte of such a part passes the test by which a text is cut
none_passes : (c : ℕ) (part : List ℕ) → is_free c part ≡ true → All (λ byte. (byte == c) ≡ false) part
none_passes c part free = All-weaker (λ byte. not (byte == c) ≡ true) (λ byte. (byte == c) ≡ false) (λ byte other. not_true (byte == c) other) part (AllPass-from_list_all (λ byte. not (byte == c)) part free)

-- parts that were joined are cut where they were joined
pub parts_of_join : (c : ℕ) (part : List ℕ) (parts : List (List ℕ)) → AreFree c (part ∷ parts) → slice_split (λ byte. byte == c) (join_with_byte c (part ∷ parts)) ≡ part ∷ parts
parts_of_join c part [] free = slice_split_none (λ byte. byte == c) part (none_passes c part free.0)
parts_of_join c part (next ∷ parts) free =
    slice_split_at (λ byte. byte == c) part c (join_with_byte c (next ∷ parts)) (none_passes c part free.0) (eq-eqb c c refl)
    ∙ ap (λ others. part ∷ others) (parts_of_join c next parts free.1)

-- a text is the join of its parts
pub join_of_parts : (c : ℕ) (text : List ℕ) (parts : List (List ℕ)) → parts ≡ slice_split (λ byte. byte == c) text → text ≡ join_with_byte c parts
join_of_parts c text parts e = sym (ap (join_with_byte c) e ∙ join_with_byte-slice_split c text)

-- if the byte is in neither of two texts, it isn't in both together
pub is_free_both : (c : ℕ) (front back : List ℕ) → is_free c front ≡ true → is_free c back ≡ true → is_free c (front ++ back) ≡ true
is_free_both c front back f b = list_all-append (λ byte. not (byte == c)) front back ∙ (rw (f, b) refl)

-- a byte below the digits is in no decimal number
pub is_free_decimal : (c n : ℕ) → c < 48 → n < 2 ^ 64 → is_free c (decimal n) ≡ true
is_free_decimal c n low high = decimal_by_steps (λ m digits. is_free c digits ≡ true) (λ m one. digit m) (λ m digits ten free. is_free_both c digits ((48 + m % 10) ∷ []) free (digit (m % 10))) n high
  where
    digit : (d : ℕ) → is_free c ((48 + d) ∷ []) ≡ true
    digit d = rw (ne_eqb (48 + d) c (λ e. absurd (omega (arith, e, low)))) refl
