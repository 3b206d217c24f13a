use Rattle.rd_text.proofs.Prelude.{◌≡◌, ◌≢◌, ℕ, ◌<◌, Bool, List, [], ◌∷◌, arith, decimal, Command, yes_or_no, keyword_of, arguments_of, argument_words, IsInRange}
use Rattle.rd_text.specs.declared.reading.keywords.Keyword.TheVariants as keyword
use Rattle.rd_text.proofs.reading.keywords.Keyword.command_without_name.Goals as goal

-- words that are no actor and its choice are those of no command of this keyword
no_starve : (words : List (List ℕ)) → ((actor : ℕ) (choice : Bool) → actor < 256 → words ≢ decimal actor ∷ yes_or_no choice ∷ [])
    → (c : Command) → IsInRange c → keyword_of c ≡ keyword.Starve → words ≢ argument_words (arguments_of c)
no_starve words none c small is = grind arith

pub returns-in_err-actor-in-Starve : goal.returns-in_err-actor-in-Starve
returns-in_err-actor-in-Starve c = rw (c.from_residual-in_err-actor-in-Starve.ensures, c.in-Starve.is) (λ free. no_starve _ c.in_err-actor-in-Starve.ensures.none)
