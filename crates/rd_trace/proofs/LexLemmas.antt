-- A line feed after printed tokens changes none of them, so the text of a value with a line feed is
-- read as the same value.
use Rattle.rd_trace.proofs.Prelude.{◌≡◌, ℕ, Bool, true, false, cond, ◌&&◌, List, [], ◌∷◌, ◌++◌, refl, ap, ◌∙◌, append_assoc, arith, Token, lex, between, fresh, punctuate, tokens, token_text, begins, ends, print_from, print, IsPrintable, ArePrintable, content-escape, lex-escape}
use Rattle.json.specs.Word.{ends_word, word}
use Rattle.json.proofs.Printed.Numbers.{lex-number, in_word-ended}
use Rattle.json.proofs.Printed.Tokens.{tokens-print}

-- what follows a value ends its word: a comma, a closing bracket, a line feed or nothing
ends_before : (ts : List Token) → (ends_word (print_from true ts ++ 10 ∷ []) ≡ true) × (ends_word (print_from true ts) ≡ true)
unfolding print_from
ends_before [] = (refl, refl)
ends_before (t ∷ ts) = grind arith

-- a token has the same lexemes before two texts that have the same lexemes and end its word
same_lexemes_before : (t : Token) (y z : List ℕ) → IsPrintable t → (ends t ≡ true → (ends_word y ≡ true) × (ends_word z ≡ true)) → lex between y ≡ lex between z
    → lex between (token_text t ++ y) ≡ lex between (token_text t ++ z)
unfolding lex word
same_lexemes_before t y z h ended same = grind (arith, append_assoc, content-escape, lex-escape, lex-number, in_word-ended)

same_comma : (b : Bool) (y z : List ℕ) → lex between y ≡ lex between z → lex between (cond b (44 ∷ []) [] ++ y) ≡ lex between (cond b (44 ∷ []) [] ++ z)
unfolding lex
same_comma b y z same = grind arith

line_feed_ignored : (c : Bool) (ts : List Token) → ArePrintable ts → lex between (print_from c ts ++ 10 ∷ []) ≡ lex between (print_from c ts)
unfolding lex print_from ArePrintable
line_feed_ignored c [] h = refl
line_feed_ignored c (t ∷ ts) h =
    simp append_assoc (same_comma (c && begins t) _ _ (same_lexemes_before t (print_from (ends t) ts ++ 10 ∷ []) (print_from (ends t) ts) h.0 (λ e. rw e (ends_before ts)) (line_feed_ignored (ends t) ts h.1)))

-- printed tokens with a line feed after them are read as the same tokens
pub tokens-line : (ts : List Token) → ArePrintable ts → tokens (print ts ++ 10 ∷ []) ≡ ts
tokens-line ts h = ap (punctuate fresh) (line_feed_ignored false ts h) ∙ tokens-print ts h
