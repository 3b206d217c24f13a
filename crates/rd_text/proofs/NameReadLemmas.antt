-- The names after a keyword, and the fault if they are missing or bad.
use Rattle.rd_text.proofs.Prelude.{common_steps, list_all, is_mark_name, Command, LineFault, Keyword, keyword_of, arguments_of, argument_words, names_after, IsInRange, AreMisnamed, is_word, IsFaultOfNames, ReadsCommand, ◌≡◌, ℕ, ◌<◌, true, true≢false, List, length, Err, arith}
use Rattle.rd_text.proofs.SpellingLemmas.{is_word_of_name, list_all-weaker}

-- bookmarks' names are words
are_words : (words : List (List ℕ)) → list_all is_mark_name words ≡ true → list_all is_word words ≡ true
are_words words e = list_all-weaker is_mark_name is_word is_word_of_name words e

-- if names follow its keyword, a command has as many arguments as names
as_many_arguments_as_names : (c : Command) → 0 < names_after (keyword_of c) → length (argument_words (arguments_of c)) ≡ names_after (keyword_of c)
as_many_arguments_as_names c some = grind arith

-- and all of its arguments are bookmarks' names
are_names : (c : Command) → IsInRange c → length (argument_words (arguments_of c)) ≡ names_after (keyword_of c) → list_all is_mark_name (argument_words (arguments_of c)) ≡ true
are_names c small count = grind arith

-- the words after a keyword are not both badly named and those of a command
pub not_badly_named : (k : Keyword) (words : List (List ℕ)) → AreMisnamed k words → (c : Command) → IsInRange c → keyword_of c ≡ k → words ≡ argument_words (arguments_of c) → ⊥
not_badly_named k words bad c small is same = grind arith

-- if no names follow a keyword, no words after it are badly named
pub none_named : (k : Keyword) (words : List (List ℕ)) → names_after k ≡ 0 → AreMisnamed k words → ⊥
none_named k words none bad = grind (arith, common_steps, true≢false)

-- the fault of the names is the fault of the command
pub names_refused : (k : Keyword) (words : List (List ℕ)) (fault : LineFault) → 0 < names_after k → IsFaultOfNames (names_after k) words fault → ReadsCommand k words (Err fault)
names_refused k words fault some bad = grind (arith, as_many_arguments_as_names, are_words, are_names)
