-- No word of a command has a space or a line feed, and there are at most four words. So a line that
-- spells a command is one line, and is cut into just its words.
use Rattle.rd_text.proofs.Prelude.{◌≡◌, ℕ, ◌+◌, ◌%◌, ◌^◌, ◌<◌, ◌≤◌, ◌==◌, ◌∙◌, Bool, true, not, List, [], ◌∷◌, length, refl, sym, true≢false, arith, tests, and_parts, decimal, decimal_by_steps, eq-eqb, ne_eqb, join_with_byte, list_all, list_all-append, slice_split, SegName, is_mark_name, is_name_byte, Command, Keyword, segment_name_words, Argument, keyword_text, keyword_of, word_of, argument_words, arguments_of, IsSegmentInRange, IsArgumentInRange, AreArgumentsInRange, spelling, IsInRange, IsOneLine, is_word}
use Rattle.std.specs.Char.{is_ascii_graphic}
use Rattle.std.proofs.lemmas.List.Elements.{All-weaker}
use Rattle.std.proofs.lemmas.List.Sums.{AllPass-from_list_all, list_all-from_AllPass}
use Rattle.rd_text.proofs.SplitLemmas.{is_free, AreFree, parts_of_join}

-- if all elements pass a test, they pass each weaker test
pub list_all-weaker : {X : Type 0} (p q : X → Bool) → ((x : X) → p x ≡ true → q x ≡ true) → (xs : List X) → list_all p xs ≡ true → list_all q xs ≡ true
list_all-weaker p q weaker xs h = list_all-from_AllPass q xs (All-weaker (λ x. p x ≡ true) (λ x. q x ≡ true) weaker xs (AllPass-from_list_all p xs h))

-- a text of graphic characters has no byte below them
pub is_free_text : (b : ℕ) → b < 33 → (text : List ℕ) → list_all is_ascii_graphic text ≡ true → is_free b text ≡ true
is_free_text b low text e = list_all-weaker is_ascii_graphic (λ byte. not (byte == b)) (λ byte graphic. is_above b byte low graphic) text e where
  is_above : (b byte : ℕ) → b < 33 → is_ascii_graphic byte ≡ true → not (byte == b) ≡ true
  is_above b byte low graphic = grind (arith, tests)

is_graphic_word : (word : List ℕ) → is_word word ≡ true → list_all is_ascii_graphic word ≡ true
is_graphic_word word e = (and_parts (not (length word == 0)) (list_all is_ascii_graphic word) e).1

-- no word has a byte below the graphic characters
pub are_free_words : (b : ℕ) → b < 33 → (words : List (List ℕ)) → list_all is_word words ≡ true → AreFree b words
are_free_words b low [] e = tt
are_free_words b low (x ∷ xs) e = let here = and_parts (is_word x) (list_all is_word xs) e in (is_free_text b low x (is_graphic_word x here.0), are_free_words b low xs here.1)

-- a bookmark's name is a word
name_byte_is_graphic : (byte : ℕ) → is_name_byte byte ≡ true → is_ascii_graphic byte ≡ true
name_byte_is_graphic byte e = grind (arith, tests)

are_graphic : (text : List ℕ) → list_all is_name_byte text ≡ true → list_all is_ascii_graphic text ≡ true
are_graphic text e = list_all-weaker is_name_byte is_ascii_graphic name_byte_is_graphic text e

pub is_word_of_name : (name : List ℕ) → is_mark_name name ≡ true → is_word name ≡ true
is_word_of_name name e = grind (arith, and_parts, are_graphic)

-- a number in decimal digits has graphic characters alone
graphic_decimal : (n : ℕ) → n < 2 ^ 64 → list_all is_ascii_graphic (decimal n) ≡ true
graphic_decimal n high = decimal_by_steps (λ m digits. list_all is_ascii_graphic digits ≡ true) (λ m one. digit m one) (λ m digits ten graphic. list_all-append is_ascii_graphic digits ((48 + m % 10) ∷ []) ∙ (rw (graphic, digit (m % 10) (omega arith)) refl)) n high
  where
    digit : (d : ℕ) → d < 10 → list_all is_ascii_graphic ((48 + d) ∷ []) ≡ true
    digit d one = grind (arith, tests)

-- each word of a command has graphic characters alone
graphic_keyword : (k : Keyword) → list_all is_ascii_graphic (keyword_text k) ≡ true
graphic_keyword k = grind arith

graphic_segment : (s : SegName) → IsSegmentInRange s → list_all is_ascii_graphic (segment_name_words s) ≡ true
graphic_segment s small = rw (list_all-append, list_all-append, graphic_decimal s.maker (omega (arith, small.0)), graphic_decimal s.n (omega (arith, small.1))) refl

graphic_argument : (x : Argument) → IsArgumentInRange x → list_all is_ascii_graphic (word_of x) ≡ true
graphic_argument x small = grind (arith, graphic_decimal, graphic_segment, is_graphic_word, is_word_of_name)

-- no word of a command has a space or a line feed
pub free_keyword : (b : ℕ) → b < 33 → (k : Keyword) → is_free b (keyword_text k) ≡ true
free_keyword b low k = is_free_text b low (keyword_text k) (graphic_keyword k)

free_arguments : (b : ℕ) → b < 33 → (xs : List Argument) → AreArgumentsInRange xs → AreFree b (argument_words xs)
free_arguments b low [] small = tt
free_arguments b low (x ∷ xs) small = (is_free_text b low (word_of x) (graphic_argument x small.0), free_arguments b low xs small.1)

-- words without a byte, joined by another byte, have it nowhere
free_join : (b : ℕ) → b < 32 → (words : List (List ℕ)) → AreFree b words → is_free b (join_with_byte 32 words) ≡ true
free_join b low [] free = refl
free_join b low (x ∷ []) free = free.0
free_join b low (x ∷ y ∷ ys) free = list_all-append (λ byte. not (byte == b)) x (32 ∷ join_with_byte 32 (y ∷ ys)) ∙ (rw (free.0, ne_eqb 32 b (λ e. absurd (omega (arith, e, low))), free_join b low (y ∷ ys) free.1) refl)

-- the line that spells a command has no line feed
pub one_line : (c : Command) → IsInRange c → IsOneLine (spelling c)
one_line c small = none_in (spelling c) (free_join 10 (omega arith) (keyword_text (keyword_of c) ∷ argument_words (arguments_of c)) (free_keyword 10 (omega arith) (keyword_of c), free_arguments 10 (omega arith) (arguments_of c) small)) where
  none_in : (text : List ℕ) → is_free 10 text ≡ true → IsOneLine text
  none_in [] free = tt
  none_in (x ∷ xs) free = let here = and_parts (not (x == 10)) (is_free 10 xs) free in ((λ e. true≢false (sym (rw (eq-eqb x 10 e) at here.0))), none_in xs here.1)

-- a line that spells a command has just its words
pub words_of_line : (line : List ℕ) (c : Command) → IsInRange c → line ≡ spelling c → slice_split (λ byte. byte == 32) line ≡ keyword_text (keyword_of c) ∷ argument_words (arguments_of c)
words_of_line line c small e = rw e (parts_of_join 32 (keyword_text (keyword_of c)) (argument_words (arguments_of c)) (free_keyword 32 (omega arith) (keyword_of c), free_arguments 32 (omega arith) (arguments_of c) small))

pub few_arguments : (c : Command) → length (argument_words (arguments_of c)) ≤ 3
few_arguments c = grind arith
