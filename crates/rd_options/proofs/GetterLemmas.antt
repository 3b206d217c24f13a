-- What the getters of clap's matches of a subcommand show about the rows.
use Rattle.std.proofs.Common.{◌≡◌, ◌∙◌, ℕ, Bool, List, Option, None, Some, refl, sym, ap, codes, arith}
use Rattle.std.specs.Prelude.{is_some, length, map, option_map, unwrap_or}
use Rattle.std.specs.Borrow.{Bor}
use Rattle.std.proofs.lemmas.List.{length-map}
use Rattle.clap.specs.Words.{all_of, first_of, first_value, found_of, matched_of, raw_values, rows_of, Text}
use Rattle.clap.specs.declared.parser.matches.ArgMatches.{ArgMatches}
use Rattle.clap.proofs.WalkLemmas.{first_value-rows, raw_values-rows}
use Rattle.rd_options.specs.declared.requests.Options.{Options}
use Rattle.rd_options.specs.declared.requests.Options.TheVariants.{Run, View}
use Rattle.rd_marks.specs.declared.rings.Ring.{Ring}
use Rattle.rd_options.specs.CommandLine.{GivesWorld, GivesStart, GivesFlag, GivesFileAndTrace, GivesRun, GivesView, GivesLoad}

-- an option is not both none and something
pub none_some : {X : Type 0} (o : Option X) (x : X) → o ≡ None → o ≡ Some x → ⊥
none_some o x none some = let same = sym none ∙ some in cc

-- an option has at most one value
pub some_same : {X : Type 0} (o : Option X) (x y : X) → o ≡ Some x → o ≡ Some y → x ≡ y
some_same o x y is also = ap (λ v. unwrap_or v x) (sym is ∙ also)

-- what a getter gives for an argument is in the rows
pub first_value_in_rows : (m : ArgMatches) (id : Text) (given : Option Text) → given ≡ first_value (found_of m) id → first_of id (rows_of (found_of m)) ≡ given
first_value_in_rows m id given is = sym (first_value-rows (found_of m) id) ∙ sym is

-- if a getter gives no text for an argument, the rows have none
pub no_value : (m : ArgMatches) (id v : Text) → None ≡ first_value (found_of m) id → first_of id (rows_of (found_of m)) ≡ Some v → ⊥
no_value m id v none some = none_some (first_of id (rows_of (found_of m))) v (first_value_in_rows m id None none) some

-- the text that a getter gives for an argument is the one in the rows
pub same_value : (m : ArgMatches) (id v w : Text) → Some v ≡ first_value (found_of m) id → first_of id (rows_of (found_of m)) ≡ Some w → v ≡ w
same_value m id v w given some = some_same (first_of id (rows_of (found_of m))) v w (first_value_in_rows m id (Some v) given) some

-- an argument has a text in the rows if a getter gives one for it
pub is_some_in_rows : (m : ArgMatches) (id : Text) (given : Option (Bor Text)) → option_map (λ s. s.now) given ≡ first_value (found_of m) id
    → is_some given ≡ is_some (first_of id (rows_of (found_of m)))
is_some_in_rows m id None is = ap is_some (sym (first_value_in_rows m id None is))
is_some_in_rows m id (Some v) is = ap is_some (sym (first_value_in_rows m id (Some v.now) is))

-- the text that a getter gives for an argument, or another one if it gives none, is the one in the
-- rows, or the other
pub value_or : (m : ArgMatches) (id : Text) (given : Option (Bor Text)) (other : Bor Text) → option_map (λ s. s.now) given ≡ first_value (found_of m) id
    → unwrap_or (first_of id (rows_of (found_of m))) other.now ≡ (unwrap_or given other).now
value_or m id given other is = ap (λ o. unwrap_or o other.now) (first_value_in_rows m id (option_map (λ s. s.now) given) is) ∙ go given where
  go : (o : Option (Bor Text)) → unwrap_or (option_map (λ s. s.now) o) other.now ≡ (unwrap_or o other).now
  go None = refl
  go (Some v) = refl

-- rows of `run` that give no file and no flag for the trace give no options
pub no_run_file : (m : ArgMatches) → ((file : Text) (trace : Bool) → GivesFileAndTrace (rows_of (found_of m)) file trace → ⊥) → (o : Options) → GivesRun (rows_of (found_of m)) o → ⊥
no_run_file m none o tells = grind arith

-- rows of `run` that give no world give no options
pub no_run_world : (m : ArgMatches) → ((actors : ℕ) (ring : Ring) → GivesWorld (rows_of (found_of m)) actors ring → ⊥) → (o : Options) → GivesRun (rows_of (found_of m)) o → ⊥
no_run_world m none (Run file actors ring trace) tells = none actors ring tells.1
no_run_world m none _ tells = tells

-- the files that a getter gives are in the rows
pub files_in_rows : (m : ArgMatches) (names : List Text) → Some names ≡ option_map raw_values (matched_of (found_of m) (codes "files")) → all_of (codes "files") (rows_of (found_of m)) ≡ Some names
files_in_rows m names given = sym (raw_values-rows (found_of m) (codes "files")) ∙ sym given

-- rows of `view` without files give no options
pub no_files : (m : ArgMatches) → None ≡ option_map raw_values (matched_of (found_of m) (codes "files")) → (o : Options) → GivesView (rows_of (found_of m)) o → ⊥
no_files m none o tells = grind (arith, raw_values-rows)

-- rows of `view` with an empty list of files give no options
pub empty_files : (m : ArgMatches) (names : List (Bor Text)) → Some (map (λ (file : Bor Text). file.now) names) ≡ option_map raw_values (matched_of (found_of m) (codes "files")) → length names ≡ 0
    → (o : Options) → GivesView (rows_of (found_of m)) o → ⊥
empty_files m names given empty o tells = grind (arith, raw_values-rows, length-map)

-- rows of `view` that give no world give no options
pub no_view_world : (m : ArgMatches) → ((actors : ℕ) (ring : Ring) → GivesWorld (rows_of (found_of m)) actors ring → ⊥) → (o : Options) → GivesView (rows_of (found_of m)) o → ⊥
no_view_world m none (View files actors ring start live history trace) tells = none actors ring tells.2
no_view_world m none _ tells = tells

-- rows of `view` that give no start with all flags give no options
pub no_view_start : (m : ArgMatches)
    → ((start : Option Text) (live history trace : Bool) → GivesStart (rows_of (found_of m)) start → GivesFlag (rows_of (found_of m)) (codes "live") live
    → GivesFlag (rows_of (found_of m)) (codes "history") history → GivesFlag (rows_of (found_of m)) (codes "trace") trace → ⊥)
    → (o : Options) → GivesView (rows_of (found_of m)) o → ⊥
no_view_start m none (View files actors ring start live history trace) tells = none (option_map (λ name. name.now) start) live history trace tells.3 tells.4 tells.5 tells.6
no_view_start m none _ tells = tells

-- rows of `load` that give no file and no flag for the trace give no options
pub no_load_file : (m : ArgMatches) → ((file : Text) (trace : Bool) → GivesFileAndTrace (rows_of (found_of m)) file trace → ⊥) → (o : Options) → GivesLoad (rows_of (found_of m)) o → ⊥
no_load_file m none o tells = grind arith
