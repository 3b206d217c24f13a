-- The program's command as clap is given it, and which words give which options. `new_rule` is an
-- argument, and `new_app` a command, with only a name. `value_names` counts the names that help
-- shows for an argument's values. A `Row` has what clap found for one argument.
use Rattle.std.specs.Prelude.{◌≡◌, ◌<◌, ◌≤◌, ◌⊎◌, ℕ, ⊤, true, false, Bool, List, [], ◌∷◌, Option, None, Some, IfSome, codes, length, map, option_map, pos, unwrap_or}
use Rattle.std.specs.Borrow.{Bor}
use Rattle.std.specs.Str.Parse.{IsNumeral, digits_value, without_leading_plus}
use Rattle.clap.specs.Lexer.{usize_max}
use Rattle.clap.specs.Walk.{Row, Rule, Text, all_of, first_of}
use Rattle.clap.specs.Simple.{App, new_app, new_rule, on_top, subcommand_of, with_rule, with_subcommand}
use Rattle.clap.specs.Words.{IsAmong, fault_of, kind_of}
use Rattle.clap.specs.declared.builder.action.ArgAction.TheVariants.{SetTrue}
use Rattle.clap.specs.declared.builder.value_parser.ValueParser.TheVariants.{Signed, Names}
use Rattle.clap.specs.declared.error.kind.ErrorKind.{ErrorKind}
use Rattle.clap.specs.declared.error.kind.ErrorKind.TheVariants.{DisplayHelp, DisplayVersion}
use Rattle.rd_options.specs.declared.requests.Options.{Options}
use Rattle.rd_options.specs.declared.requests.Options.TheVariants.{Run, View, Load}
use Rattle.rd_options.specs.declared.requests.OptionsFault.{OptionsFault}
use Rattle.rd_options.specs.declared.requests.OptionsFault.TheVariants.{Shown, Refused, TooManyFiles, SharedFile, NoMemory}
use Rattle.rd_cell.specs.declared.limits.TheConstants.{MOST_ACTORS}
use Rattle.rd_desk.specs.declared.desks.TheConstants.{MOST_VIEWERS}
use Rattle.rd_marks.specs.declared.rings.Ring.{Ring}
use Rattle.rd_options.specs.Options.{SharesNoFile, file_count, ring_text, flag_text}

-- a list of the names that an option's value may have, as clap is given it
abbrev pub ValueNames : Type 0
ValueNames = Bor (List (Bor Text))

-- these names are the numbers of cells that a ring may have: 2, 4 and 8
abbrev pub AreRingSizes : ValueNames → Type 0
AreRingSizes names = map (λ name. name.now) names.now ≡ codes "2" ∷ codes "4" ∷ codes "8" ∷ []

-- the argument `file`, which is required
abbrev pub file_rule : Rule
file_rule = record (new_rule (codes "file")) { value_names = 1; required = true }

-- the argument `files`: the viewers' scripts, at least one
abbrev pub files_rule : Rule
files_rule = record (new_rule (codes "files")) { range = Some (record { start_inclusive = 1; end_inclusive = usize_max }); value_names = 1; required = true }

-- the option `--actors`: a number from 1 to 16
abbrev pub actors_rule : Rule
actors_rule = record (new_rule (codes "actors")) {
  long = Some (codes "actors");
  value_names = 1;
  parser = Some (Signed (pos 1) (pos MOST_ACTORS));
}

-- the option `--ring`: one of these names
abbrev pub ring_rule : ValueNames → Rule
ring_rule names = record (new_rule (codes "ring")) { long = Some (codes "ring"); value_names = 1; parser = Some (Names names) }

-- an option for which clap finds 4 if the words don't give it
abbrev pub by_default_4 : Rule → Rule
by_default_4 rule = record rule { defaults = codes "4" ∷ [] }

-- the option `--start`, with one value
abbrev pub start_rule : Rule
start_rule = record (new_rule (codes "start")) { long = Some (codes "start"); value_names = 1 }

-- a flag of this name, which takes no value
abbrev pub flag_rule : Text → Rule
flag_rule name = record (new_rule name) { long = Some name; action = Some SetTrue }

-- the subcommand `run` without `--trace`: the script's file, and the options of the fresh world, by
-- default 4
abbrev pub run_app_without_trace : ValueNames → App
run_app_without_trace names =
    with_rule (with_rule (with_rule (new_app (codes "run")) file_rule) (by_default_4 actors_rule)) (by_default_4 (ring_rule names))

-- the subcommand `run`, with `--trace`
abbrev pub run_app : ValueNames → App
run_app names = with_rule (run_app_without_trace names) (flag_rule (codes "trace"))

-- the subcommand `view` over a fresh world only: the files of the viewers' scripts, and the options
-- of this world
abbrev pub view_app_over_fresh_world : ValueNames → App
view_app_over_fresh_world names = with_rule (with_rule (with_rule (new_app (codes "view")) files_rule) actors_rule) (ring_rule names)

-- the subcommand `view`, with `--start`, `--live`, `--history` and `--trace`
abbrev pub view_app : ValueNames → App
view_app names =
    with_rule
    (with_rule (with_rule (with_rule (view_app_over_fresh_world names) start_rule) (flag_rule (codes "live"))) (flag_rule (codes "history")))
    (flag_rule (codes "trace"))

-- the subcommand `load`: the file of the trace, and `--trace`
abbrev pub load_app : App
load_app = with_rule (with_rule (new_app (codes "load")) file_rule) (flag_rule (codes "trace"))

-- two lists of ring sizes, as clap is given them: one for `run`, one for `view`
abbrev pub ValueNamesPair : Type 0
ValueNamesPair = ValueNames × ValueNames

-- both lists are the numbers of cells that a ring may have
abbrev pub BothAreRingSizes : ValueNamesPair → Type 0
BothAreRingSizes names = AreRingSizes names.0 × AreRingSizes names.1

-- the program's command: it has a version, and requires one of the subcommands `run`, `view` and
-- `load`
abbrev pub program_app : ValueNamesPair → App
program_app names = with_subcommand
    (with_subcommand
    (with_subcommand
    (on_top (λ s. record s { has_version = true; subcommand_required = true }) (new_app (codes "lcrqdb")))
    (run_app names.0).top)
    (view_app names.1).top)
    load_app.top

-- the text is this number in decimal digits, with or without a plus before them
abbrev pub IsNumeralOf : Text → ℕ → Type 0
IsNumeralOf text n = IsNumeral 10 (without_leading_plus text) × (digits_value 10 (without_leading_plus text) ≡ n)

-- the text is this number of actors, 1 to 16
abbrev pub SpellsActors : Text → ℕ → Type 0
SpellsActors text actors = IsNumeralOf text actors × (1 ≤ actors) × (actors ≤ MOST_ACTORS)

-- the value that clap found for an argument of this name, or 4 if it found none
abbrev pub text_or_4 : List Row → Text → Text
text_or_4 rows name = unwrap_or (first_of name rows) (codes "4")

-- the values that clap found for `--actors` and `--ring`, or 4 where it found none, are this number
-- of actors, 1 to 16, and this ring
pub record GivesWorld (rows : List Row) (actors : ℕ) (ring : Ring) : Type 0 where
  pub counted : SpellsActors (text_or_4 rows (codes "actors")) actors
  pub spelled : text_or_4 rows (codes "ring") ≡ ring_text ring

-- the value that clap found for `--start` is this name, if there is one; with a name, it found no
-- value for `--actors` and none for `--ring`
abbrev pub GivesStart : List Row → Option Text → Type 0
GivesStart rows start =
    (first_of (codes "start") rows ≡ start)
    × IfSome start (λ _. (first_of (codes "actors") rows ≡ None) × (first_of (codes "ring") rows ≡ None))

-- the value that clap found for a flag of this name says whether it is set
abbrev pub GivesFlag : List Row → Text → Bool → Type 0
GivesFlag rows name choice = first_of name rows ≡ Some (flag_text choice)

-- the values that clap found for `file` and `--trace` are this name, and whether the trace is asked
-- for
abbrev pub GivesFileAndTrace : List Row → Text → Bool → Type 0
GivesFileAndTrace rows name trace = (first_of (codes "file") rows ≡ Some name) × GivesFlag rows (codes "trace") trace

-- the values that clap found for the arguments of `run` give these options, which are a `Run`
abbrev pub GivesRun : List Row → Options → Type 0
GivesRun rows (Run file actors ring trace) = GivesFileAndTrace rows file.now trace × GivesWorld rows actors ring
GivesRun rows _ = ⊥

-- the values that clap found for the arguments of `view` give these options, which are a `View`
-- with at least one file. With `--start`, the options have 4 actors and rings of 4 cells
abbrev pub GivesView : List Row → Options → Type 0
GivesView rows (View files actors ring start live history trace) =
    (all_of (codes "files") rows ≡ Some (map (λ file. file.now) files.items)) × (1 ≤ length files.items)
    × GivesWorld rows actors ring × GivesStart rows (option_map (λ name. name.now) start)
    × GivesFlag rows (codes "live") live × GivesFlag rows (codes "history") history × GivesFlag rows (codes "trace") trace
GivesView rows _ = ⊥

-- the values that clap found for the arguments of `load` give these options, which are a `Load`
abbrev pub GivesLoad : List Row → Options → Type 0
GivesLoad rows (Load file trace) = GivesFileAndTrace rows file.now trace
GivesLoad rows _ = ⊥

-- clap found a subcommand, by its name (`.0`), and the values for its arguments (`.1`) give these
-- options
abbrev pub GivesSubcommand : Option (Text × List Row) → Options → Type 0
GivesSubcommand None options = ⊥
GivesSubcommand (Some met) options =
    ((met.0 ≡ codes "run") × GivesRun met.1 options)
    ⊎ (((met.0 ≡ codes "view") × GivesView met.1 options)
    ⊎ ((met.0 ≡ codes "load") × GivesLoad met.1 options))

-- the words give these options: clap, with `names` as the lists of ring sizes, finds no fault in
-- them, and the values that it finds give the options
pub record GivesOptions (words : List Text) (options : Options) : Type 0 where
  pub names : ValueNamesPair
  pub rings : BothAreRingSizes names
  pub faultless : fault_of (program_app names) words ≡ []
  pub gives : GivesSubcommand (subcommand_of (program_app names) words) options

-- whether an error of this kind is a request for help or for the version
abbrev pub is_help_or_version : ErrorKind → Bool
is_help_or_version DisplayHelp = true
is_help_or_version DisplayVersion = true
is_help_or_version _ = false

-- clap, with `names` as the lists of ring sizes, finds a fault of this kind in the words
pub record HasFault (words : List Text) (kind : ErrorKind) : Type 0 where
  pub names : ValueNamesPair
  pub rings : BothAreRingSizes names
  pub among : IsAmong kind (fault_of (program_app names) words)

-- clap, with `names` as the lists of ring sizes, finds no fault in the words, but the values that
-- it finds give no options
pub record IsFaultlessWithoutOptions (words : List Text) : Type 0 where
  pub names : ValueNamesPair
  pub rings : BothAreRingSizes names
  pub faultless : fault_of (program_app names) words ≡ []
  pub nothing : (options : Options) → GivesSubcommand (subcommand_of (program_app names) words) options → ⊥

-- why these words end with this fault. `NoMemory` may come of any words, `TooManyFiles` of options
-- with too many files, and `SharedFile` of options by which viewers share one; `Shown` comes of a
-- request for help or the version. `Refused` comes of any other fault of clap, or of values that
-- give no options
abbrev pub GivesFault : List Text → OptionsFault → Type 0
GivesFault words NoMemory = ⊤
GivesFault words TooManyFiles = (options : Options) × GivesOptions words options × (MOST_VIEWERS < file_count options)
GivesFault words SharedFile = (options : Options) × GivesOptions words options × (SharesNoFile options → ⊥)
GivesFault words (Shown error) = (is_help_or_version (kind_of error) ≡ true) × HasFault words (kind_of error)
GivesFault words (Refused error) = (is_help_or_version (kind_of error) ≡ false) × (HasFault words (kind_of error) ⊎ IsFaultlessWithoutOptions words)
