-- The program's faults for clap's errors; and clap's clauses are exact for the program's command.
use Rattle.std.proofs.Common.{arith, ◌≡◌, inl, inr, refl, true, List, []}
use Rattle.clap.specs.Simple.{App, HasMatchesOf, subcommand_rows_of, with_subcommand}
use Rattle.clap.specs.Kinds.{HasKind}
use Rattle.clap.specs.Faults.{fault_of, is_simple_and_free}
use Rattle.clap.specs.Values.{kind_of}
use Rattle.clap.specs.Walk.{Text}
use Rattle.clap.specs.declared.error.Error.{Error}
use Rattle.clap.specs.declared.error.kind.ErrorKind.{ErrorKind}
use Rattle.clap.specs.declared.parser.matches.ArgMatches.{ArgMatches}
use Rattle.rd_options.specs.declared.requests.Options.{Options}
use Rattle.rd_options.specs.Options.{options_fault_by_kind, options_fault}
use Rattle.rd_options.specs.CommandLine.{BothAreRingSizes, ValueNamesPair, GivesFault, HasFault, GivesOptions, GivesSubcommand, IsFaultlessWithoutOptions, program_app}

-- an error whose kind clap finds in the words is a reason why they give no options
GivesFault-options_fault_by_kind : (words : List Text) (k : ErrorKind) (e : Error) → kind_of e ≡ k → HasFault words k → GivesFault words (options_fault_by_kind k e)
GivesFault-options_fault_by_kind words k e is fault = grind arith

-- the program's fault is a reason why the words give no options, for an error that says that memory
-- ran out, or whose kind clap finds in the words
GivesFault-options_fault : (words : List Text) (names : ValueNamesPair) (e : Error) → BothAreRingSizes names → HasKind (fault_of (program_app names) words) e → GivesFault words (options_fault e)
GivesFault-options_fault words names e rings (inl memory) = rw memory tt
GivesFault-options_fault words names e rings (inr among) =
    GivesFault-options_fault_by_kind words (kind_of e) e refl (record { names = names; rings = rings; among = among })

-- the program's fault is a reason why the words give no options, for an error of clap on a command
-- that is the program's
pub GivesFault-error : (words : List Text) (app : App) (names : ValueNamesPair) (e : Error) → BothAreRingSizes names → app ≡ program_app names
    → (is_simple_and_free app ≡ true → HasKind (fault_of app words) e) → GivesFault words (options_fault e)
GivesFault-error words app names e rings is kinds =
    GivesFault-options_fault words names e rings ((rw is at kinds) refl)

-- if matches of the program's command give these options, the words do
pub GivesOptions-matches : (words : List Text) (app : App) (names : ValueNamesPair) (m : ArgMatches) (o : Options) → BothAreRingSizes names → app ≡ program_app names
    → (is_simple_and_free app ≡ true → fault_of app words ≡ []) → HasMatchesOf app words m → GivesSubcommand (subcommand_rows_of m) o → GivesOptions words o
GivesOptions-matches words app names m o rings is faultless matches tells = record {
  names = names;
  rings = rings;
  faultless = (rw is at faultless) refl;
  gives = rw ((rw is at matches) refl).1 at tells;
}

-- if matches of the program's command give no options, the words give none
pub IsFaultlessWithoutOptions-matches : (words : List Text) (app : App) (names : ValueNamesPair) (m : ArgMatches) → BothAreRingSizes names → app ≡ program_app names
    → (is_simple_and_free app ≡ true → fault_of app words ≡ []) → HasMatchesOf app words m → ((o : Options) → GivesSubcommand (subcommand_rows_of m) o → ⊥) → IsFaultlessWithoutOptions words
IsFaultlessWithoutOptions-matches words app names m rings is faultless matches nothing = record {
  names = names;
  rings = rings;
  faultless = (rw is at faultless) refl;
  nothing = λ o tells. nothing o (rw ((rw is at matches) refl).1 tells);
}

-- adding equal subcommands to equal commands gives equal commands
pub with_subcommand-equal : (all old sub old' sub' : App) → all ≡ with_subcommand old sub.top → old ≡ old' → sub ≡ sub' → all ≡ with_subcommand old' sub'.top
with_subcommand-equal all old sub old' sub' is same known = rw (is, same, known) refl
