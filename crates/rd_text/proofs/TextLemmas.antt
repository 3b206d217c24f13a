-- The lines of a whole text, as the parts between its line feeds, and what they spell.
use Rattle.rd_text.proofs.Prelude.{IsOneLine, ended_lines_of, ◌≡◌, ◌≢◌, ℕ, ◌==◌, if◌then◌else◌, List, [], ◌∷◌, ◌++◌, refl, ap, ne_eqb, slice_split, onto_first, lines_of}

-- a text without a line feed, followed by one, is the first line
pub lines-first : (text rest : List ℕ) → IsOneLine text → lines_of (text ++ 10 ∷ rest) ≡ text ∷ lines_of rest
lines-first [] rest h = refl
lines-first (x ∷ xs) rest h = rw (ne_eqb x 10 h.0, lines-first xs rest h.1) refl

pub ended-first : (text rest : List ℕ) → IsOneLine text → ended_lines_of (text ++ 10 ∷ rest) ≡ text ∷ ended_lines_of rest
ended-first [] rest h = refl
ended-first (x ∷ xs) rest h = rw (ne_eqb x 10 h.0, ended-first xs rest h.1) refl

-- the lines after one more byte in front of the text
abbrev one-more : ℕ → List (List ℕ) → List (List ℕ)
one-more x lines = if x == 10 then [] ∷ lines else onto_first x lines

-- the parts of a text are the lines of the text with a line feed after it
pub parts-of_ended : (text : List ℕ) → slice_split (λ byte. byte == 10) text ≡ lines_of (text ++ 10 ∷ [])
parts-of_ended [] = refl
parts-of_ended (x ∷ xs) = ap (one-more x) (parts-of_ended xs)

-- if no line feed ends a text, its parts are its lines
pub parts-of_unended : (text : List ℕ) → text ≢ [] → ((front : List ℕ) → text ≢ front ++ 10 ∷ []) → slice_split (λ byte. byte == 10) text ≡ lines_of text
parts-of_unended [] some unended = absurd (some refl)
parts-of_unended (x ∷ []) some unended = rw (ne_eqb x 10 (λ e. unended [] (ap (λ y. y ∷ []) e))) refl
parts-of_unended (x ∷ y ∷ ys) some unended =
    ap (one-more x) (parts-of_unended (y ∷ ys) (λ e. cc) (λ front e. unended (x ∷ front) (ap (λ t. x ∷ t) e)))
