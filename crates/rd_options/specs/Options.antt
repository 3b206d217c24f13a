-- What the command line may ask for, and the faults of a command line for clap's errors.
use Rattle.std.specs.Prelude.{◌≡◌, ◌≢◌, ◌≤◌, ℕ, ⊤, Bool, true, false, List, [], ◌∷◌, ◌++◌, codes, length, map}
use Rattle.std.specs.List.{AllByRecursion}
use Rattle.clap.specs.Walk.{Text}
use Rattle.clap.specs.Words.{kind_of}
use Rattle.clap.specs.declared.error.Error.{Error}
use Rattle.clap.specs.declared.error.kind.ErrorKind.{ErrorKind}
use Rattle.clap.specs.declared.error.kind.ErrorKind.TheVariants.{DisplayHelp, DisplayVersion, OutOfMemory}
use Rattle.rd_cell.specs.declared.limits.TheConstants.{MOST_ACTORS}
use Rattle.rd_desk.specs.declared.desks.TheConstants.{MOST_VIEWERS}
use Rattle.rd_marks.specs.declared.rings.Ring.{Ring}
use Rattle.rd_marks.specs.declared.rings.Ring.TheVariants.{Two, Four, Eight}
use Rattle.rd_options.specs.declared.requests.Options.{Options}
use Rattle.rd_options.specs.declared.requests.Options.TheVariants.{Run, View, Load}
use Rattle.rd_options.specs.declared.requests.OptionsFault.{OptionsFault}
use Rattle.rd_options.specs.declared.requests.OptionsFault.TheVariants.{Shown, Refused, TooManyFiles, SharedFile, NoMemory}

-- the text by which the command line spells a ring
abbrev pub ring_text : Ring → List ℕ
ring_text Two = codes "2"
ring_text Four = codes "4"
ring_text Eight = codes "8"

-- the text that clap keeps for a flag, by whether the flag is set
abbrev pub flag_text : Bool → List ℕ
flag_text true = codes "true"
flag_text false = codes "false"

-- the numbers in these options are in range: 1 to 16 actors and, for `view`, 1 to 64 files; `load`
-- gives no number
abbrev pub AreInRange : Options → Type 0
AreInRange (Run file actors ring trace) = (1 ≤ actors) × (actors ≤ MOST_ACTORS)
AreInRange (View files actors ring start live history trace) = ((1 ≤ actors) × (actors ≤ MOST_ACTORS)) × ((1 ≤ length files.items) × (length files.items ≤ MOST_VIEWERS))
AreInRange (Load file trace) = ⊤

-- the number of files that these options name
abbrev pub file_count : Options → ℕ
file_count (Run file actors ring trace) = 1
file_count (View files actors ring start live history trace) = length files.items
file_count (Load file trace) = 1

-- the name of the file of the replies to a viewer that reads the file of this name
abbrev pub replies_name : Text → Text
replies_name name = name ++ codes ".replies"

-- viewers that read the files of these two names share none: the names differ, and neither is that
-- of the other one's replies
abbrev pub IsApartFrom : Text → Text → Type 0
IsApartFrom name other = (name ≢ other) × (name ≢ replies_name other) × (other ≢ replies_name name)

-- no two viewers that read the files of these names share one
abbrev pub AreApart : List Text → Type 0
AreApart [] = ⊤
AreApart (name ∷ names) = AllByRecursion (IsApartFrom name) names × AreApart names

-- viewers that are there at once by these options share no file
abbrev pub SharesNoFile : Options → Type 0
SharesNoFile (View files actors ring start true history trace) = AreApart (map (λ file. file.now) files.items)
SharesNoFile _ = ⊤

-- the fault of a command line for an error of clap with this kind: `Shown` for help or the version,
-- `NoMemory` for refused memory, `Refused` for any other kind
abbrev pub options_fault_by_kind : ErrorKind → Error → OptionsFault
options_fault_by_kind DisplayHelp error = Shown error
options_fault_by_kind DisplayVersion error = Shown error
options_fault_by_kind OutOfMemory error = NoMemory
options_fault_by_kind _ error = Refused error

-- the fault of a command line for an error of clap, by the error's own kind
abbrev pub options_fault : Error → OptionsFault
options_fault error = options_fault_by_kind (kind_of error) error

-- the fault is a mistake in the words, `Refused` with an error of this kind; or it is `NoMemory`,
-- with which any call may end
abbrev pub IsRefusedOrNoMemory : ErrorKind → OptionsFault → Type 0
IsRefusedOrNoMemory kind (Refused error) = kind_of error ≡ kind
IsRefusedOrNoMemory kind (Shown error) = ⊥
IsRefusedOrNoMemory kind TooManyFiles = ⊥
IsRefusedOrNoMemory kind SharedFile = ⊥
IsRefusedOrNoMemory kind NoMemory = ⊤
