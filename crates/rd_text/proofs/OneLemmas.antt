-- Two commands with the same words are equal: after one keyword, arguments have the same shapes,
-- and an argument is determined by its shape and its word.
use Rattle.rd_text.proofs.Prelude.{◌≡◌, ℕ, Bool, ◌==◌, List, [], ◌∷◌, length, refl, sym, ◌∙◌, ap, arith, drop, slice_index_or, slice_split, decimal_injective, SegName, Command, yes_or_no, segment_name_words, Argument, Byte, Long, Segment, Choice, Name, Kind, keyword_of, word_of, argument_words, arguments_of, IsSegmentInRange, IsArgumentInRange, AreArgumentsInRange, IsInRange, IsSameCommand, Place, kind_of, place_arguments}
use Rattle.rd_text.proofs.KeywordLemmas.{one_kind}
use Rattle.rd_text.proofs.NumeralLemmas.{name_parts}

-- the shape of an argument, as a number
abbrev shape : Argument → ℕ
shape (Byte n) = 0
shape (Long n) = 1
shape (Segment s) = 2
shape (Choice choice) = 3
shape (Name name) = 4
shape (Kind k) = 5

-- two lists of arguments are alike: at each position, if all arguments before are equal, the two
-- have one shape
abbrev AreAlike : List Argument → List Argument → Type 0
AreAlike (x ∷ xs) (y ∷ ys) = (shape x ≡ shape y) × (x ≡ y → AreAlike xs ys)
AreAlike _ _ = Unit {0}

-- the arguments after one kind of place are alike, and so are those after one keyword
alike_after_kind : (p q : Place) → kind_of p ≡ kind_of q → AreAlike (place_arguments p) (place_arguments q)
alike_after_kind p q k = grind arith

alike_after_keyword : (c d : Command) → keyword_of c ≡ keyword_of d → AreAlike (arguments_of c) (arguments_of d)
alike_after_keyword c d k = grind (arith, alike_after_kind)

-- the i-th word of a list, from 0, or the empty word
abbrev word_at : ℕ → List (List ℕ) → List ℕ
word_at i words = slice_index_or words i []

same_choice : (a b : Bool) → yes_or_no a ≡ yes_or_no b → a ≡ b
same_choice a b e = grind arith

-- two segments with one name are equal
same_segment : (s t : SegName) → IsSegmentInRange s → IsSegmentInRange t → segment_name_words s ≡ segment_name_words t → s ≡ t
same_segment s t small below e =
    let parts = sym (name_parts s small) ∙ ap (slice_split (λ byte. byte == 46)) e ∙ name_parts t below in
    let maker = decimal_injective s.maker t.maker (omega (arith, small.0)) (omega (arith, below.0)) (ap (word_at 0) parts) in
    let n = decimal_injective s.n t.n (omega (arith, small.1)) (omega (arith, below.1)) (ap (word_at 1) parts) in
    ap (λ m. record { maker = m; n = s.n }) maker ∙ ap (λ m. record { maker = t.maker; n = m }) n

-- two arguments with one shape and one word are equal
same_argument : (x y : Argument) → shape x ≡ shape y → IsArgumentInRange x → IsArgumentInRange y → word_of x ≡ word_of y → x ≡ y
same_argument (Byte a) (Byte b) same small below e = ap Byte (decimal_injective a b (omega (arith, small)) (omega (arith, below)) e)
same_argument (Long a) (Long b) same small below e = ap Long (decimal_injective a b small below e)
same_argument (Segment s) (Segment t) same small below e = ap Segment (same_segment s t small below e)
same_argument (Choice a) (Choice b) same small below e = ap Choice (same_choice a b e)
same_argument (Name a) (Name b) same small below e = ap Name e
same_argument (Kind k) (Kind m) same small below e = ap Kind (one_kind k m e)
same_argument _ _ same small below e = absurd (omega (arith, same))

-- two alike lists of arguments with the same words are equal
same_arguments : (xs ys : List Argument) → AreAlike xs ys → AreArgumentsInRange xs → AreArgumentsInRange ys → argument_words xs ≡ argument_words ys → xs ≡ ys
same_arguments [] [] a small below e = refl
same_arguments (x ∷ xs) (y ∷ ys) a small below e =
    let same = same_argument x y a.0 small.0 below.0 (ap (word_at 0) e) in
    ap (λ z. z ∷ xs) same ∙ ap (λ zs. y ∷ zs) (same_arguments xs ys (a.1 same) small.1 below.1 (ap (drop 1) e))
same_arguments _ _ a small below e = absurd (omega (arith, ap length e))

-- two commands with one keyword and the same words are the same
pub one_command : (c d : Command) → IsInRange c → IsInRange d → keyword_of c ≡ keyword_of d → argument_words (arguments_of c) ≡ argument_words (arguments_of d) → IsSameCommand c d
one_command c d small below k e = (k, same_arguments (arguments_of c) (arguments_of d) (alike_after_keyword c d k) small below e)
