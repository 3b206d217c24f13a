-- Words that spell numbers, and the parts of a segment's name.
use Rattle.rd_text.proofs.Prelude.{None, Some, ◌≡◌, ◌≢◌, ℕ, ◌^◌, ◌<◌, ◌≤◌, ◌-◌, ◌==◌, ◌⊎◌, List, [], ◌∷◌, get_or, length, Option, IfSome, IfNone, Result, Ok, Err, ParsesUnsigned, parse_plain, numerals_by_value, tells_digits, decimal-digits_value, decimal_digit, first_decimal, parse-decimal, subst, arith, sym, ◌∙◌, ap, append_assoc, decimal, slice_split, join_with_byte, SegName, segment_name_words, IsSegmentInRange}
use Rattle.std.specs.Result.{result_ok}
use Rattle.rd_text.proofs.SplitLemmas.{parts_of_join, join_of_parts, is_free_decimal}

-- a word of a single digit spells that digit's value
pub digit_spelled : (word : List ℕ) → length word ≡ 1 → 48 ≤ get_or word 0 0 → get_or word 0 0 < 58 → word ≡ decimal (get_or word 0 0 - 48)
digit_spelled (d ∷ []) one low high = grind (arith, decimal_digit)
digit_spelled _ one low high = grind arith

-- the digits of a number don't begin with a plus sign, or with a zero before another byte
pub begins_as_number : (n : ℕ) → n < 2 ^ 64 → (get_or (decimal n) 0 0 ≡ 43) ⊎ ((get_or (decimal n) 0 0 ≡ 48) × (1 < length (decimal n))) → ⊥
begins_as_number n small begins = grind (arith, decimal_digit, first_decimal)

-- if std reads a number from a word that begins with neither, the word is the number's spelling
pub read_as_spelled : {E : Type 0} (word digits : List ℕ) (r : Result ℕ E) (o : Option ℕ) → digits ≡ word → ParsesUnsigned 64 10 digits r → o ≡ result_ok r → get_or word 0 0 ≢ 43
    → (get_or word 0 0 ≡ 48 → length word ≡ 1) → IfSome o (λ n. word ≡ decimal n)
read_as_spelled word digits (Err e) o same reads left plain alone = rw left tt
read_as_spelled {E} word digits (Ok n) o same reads left plain alone =
    let own = numerals_by_value _ tells_digits in
    let is = parse_plain own {E = E} 64 word (Ok n) (subst (λ (ds : List ℕ). ParsesUnsigned {E = E} 64 10 ds (Ok n)) same reads) plain in
    rw left (sym (decimal-digits_value own word is.0.0 is.0.1 alone is.0.2) ∙ ap decimal (sym is.1))

-- if std reads no number from a word, the word spells none
pub none_spelled : {E : Type 0} (word digits : List ℕ) (r : Result ℕ E) (o : Option ℕ) → digits ≡ word → ParsesUnsigned 64 10 digits r → o ≡ result_ok r
    → IfNone o ((n : ℕ) → n < 2 ^ 64 → word ≢ decimal n)
none_spelled word digits (Ok m) o same reads left = rw left tt
none_spelled word digits (Err e) o same reads left = rw left (λ n small is. let no = parse-decimal 64 n digits (Err e) small small (same ∙ is) reads in cc)

-- a segment's name is its two parts, joined by a full stop
name_join : (s : SegName) → segment_name_words s ≡ join_with_byte 46 (decimal s.maker ∷ decimal s.n ∷ [])
name_join s = append_assoc (decimal s.maker) (46 ∷ []) (decimal s.n)

-- a segment's name has two parts
pub name_parts : (s : SegName) → IsSegmentInRange s → slice_split (λ byte. byte == 46) (segment_name_words s) ≡ decimal s.maker ∷ decimal s.n ∷ []
name_parts s small =
    rw (name_join s) (parts_of_join 46 (decimal s.maker) (decimal s.n ∷ [])
    (is_free_decimal 46 s.maker (omega arith) (omega (arith, small.0)), (is_free_decimal 46 s.n (omega arith) (omega (arith, small.1)), tt)))

-- if the parts of a word spell a segment's name, so does the word
pub name_from_parts : (word : List ℕ) (parts : List (List ℕ)) (r : Option SegName) → parts ≡ slice_split (λ byte. byte == 46) word → IfSome r (λ s. parts ≡ decimal s.maker ∷ decimal s.n ∷ []) → IfSome r (λ s. word ≡ segment_name_words s)
name_from_parts word parts None cut is = tt
name_from_parts word parts (Some s) cut is = join_of_parts 46 word (decimal s.maker ∷ decimal s.n ∷ []) (sym is ∙ cut) ∙ sym (name_join s)

-- if the parts of a word spell no segment's name, neither does the word
pub no_name_from_parts : (word : List ℕ) (parts : List (List ℕ)) (r : Option SegName) → parts ≡ slice_split (λ byte. byte == 46) word → IfNone r ((s : SegName) → IsSegmentInRange s → parts ≢ decimal s.maker ∷ decimal s.n ∷ []) → IfNone r ((s : SegName) → IsSegmentInRange s → word ≢ segment_name_words s)
no_name_from_parts word parts r cut is = grind (arith, name_parts)

-- a word of more than four parts, which is more than `parts_of` returns, spells no segment's name
pub no_name_of_many : (word : List ℕ) → 4 < length (slice_split (λ byte. byte == 46) word) → (s : SegName) → IsSegmentInRange s → word ≢ segment_name_words s
no_name_of_many word many s small e = absurd (omega (arith, many, ap length (ap (slice_split (λ byte. byte == 46)) e ∙ name_parts s small)))
