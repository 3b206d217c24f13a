-- What a line spells, from its words; and that a line which spells a command is read as that
-- command.
use Rattle.rd_text.proofs.Prelude.{◌≡◌, ℕ, ◌<◌, ◌≤◌, ◌==◌, List, ◌∷◌, length, Result, Ok, Err, sym, ◌∙◌, ap, arith, slice_split, IsOkAnd, Command, LineFault, Keyword, keyword_text, keyword_of, arguments_of, argument_words, names_after, most_line_bytes, spelling, IsInRange, IsSameCommand, IsMisnamed, Says, ReadsCommand}
use Rattle.rd_text.specs.declared.faults.LineFault.TheVariants as fault
use Rattle.rd_text.proofs.KeywordLemmas.{one_keyword}
use Rattle.rd_text.proofs.NameReadLemmas.{not_badly_named}
use Rattle.rd_text.proofs.OneLemmas.{one_command}
use Rattle.rd_text.proofs.SpellingLemmas.{words_of_line, few_arguments, free_keyword, are_free_words}
use Rattle.rd_text.proofs.SplitLemmas.{parts_of_join, join_of_parts}

-- the words of a line
abbrev cut : List ℕ → List (List ℕ)
cut line = slice_split (λ byte. byte == 32) line

-- at most two names follow a keyword
few_names : (k : Keyword) → names_after k ≤ 2
few_names k = grind arith

-- the words of a misnamed line
misnamed_words : (line : List ℕ) (h : IsMisnamed line) → cut line ≡ keyword_text h.0 ∷ h.1
misnamed_words line h = rw h.3 (parts_of_join 32 (keyword_text h.0) h.1 (free_keyword 32 (omega arith) h.0, are_free_words 32 (omega arith) h.1 h.2.1))

-- a line of more than four words is bad
pub too_many_words : (line : List ℕ) → length line ≤ most_line_bytes → 4 < length (slice_split (λ byte. byte == 32) line) → Says line (Err fault.BadLine)
too_many_words line few many =
    (few, (λ c small e. absurd (omega (arith, many, ap length (words_of_line line c small e), few_arguments c))), (λ bad. absurd (omega (arith, many, ap length (misnamed_words line bad), bad.2.0, few_names bad.0))))

-- if the words after a keyword read as a command or fault, the line spells or has it
pub says_words : (line : List ℕ) (k : Keyword) (words : List (List ℕ)) (r : Result Command LineFault) → length line ≤ most_line_bytes → keyword_text k ∷ words ≡ slice_split (λ byte. byte == 32) line → ReadsCommand k words r → Says line r
says_words line k words (Ok c) few is reads =
    (few, reads.0, join_of_parts 32 line _ (ap (λ word. keyword_text word ∷ argument_words (arguments_of c)) reads.1 ∙ ap (λ ws. keyword_text k ∷ ws) (sym reads.2) ∙ is))
says_words line k words (Err fault.BadLine) few is reads = (
  few,
  (λ c small e. let same = is ∙ words_of_line line c small e in reads.0 c small (sym (one_keyword k (keyword_of c) (cc))) (cc)),
  (λ bad. let same = is ∙ misnamed_words line bad in let behind : words ≡ bad.1 = cc in reads.1 (rw (one_keyword k bad.0 (cc), behind) bad.2)),
)
says_words line k words (Err fault.BadName) few is bad = (few, (k, words, bad, join_of_parts 32 line (keyword_text k ∷ words) is))
says_words line k words (Err fault.LineTooLong) few is never = absurd never

-- no misnamed line spells a command
not_misnamed : (line : List ℕ) → IsMisnamed line → (c : Command) → IsInRange c → line ≡ spelling c → ⊥
not_misnamed line bad c small e =
    let same = sym (misnamed_words line bad) ∙ words_of_line line c small e in
    not_badly_named bad.0 bad.1 bad.2 c small (sym (one_keyword bad.0 (keyword_of c) (cc))) (cc)

-- a line that spells a command is read as that command
pub said_as_spelled : (line : List ℕ) (r : Result Command LineFault) → Says line r → (c : Command) → length line ≤ most_line_bytes → IsInRange c → line ≡ spelling c → IsOkAnd r (λ d. IsSameCommand c d)
said_as_spelled line (Ok d) said c few small e =
    let same = sym (words_of_line line c small e) ∙ words_of_line line d said.1 said.2 in
    one_command c d small said.1 (one_keyword (keyword_of c) (keyword_of d) (cc)) (cc)
said_as_spelled line (Err fault.BadLine) said c few small e = said.1 c small e
said_as_spelled line (Err fault.BadName) said c few small e = not_misnamed line said.1 c small e
said_as_spelled line (Err fault.LineTooLong) said c few small e = absurd (omega (arith, few, said))
