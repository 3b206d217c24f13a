-- The outcome of a command line, and how the program ends after each.
use Rattle.std.specs.Prelude.{◌≡◌, ◌⊎◌, ℕ, Bool, true, false, codes, string_bytes, Result, Ok, Err, String}
use Rattle.std.specs.Global.{Global}
use Rattle.rd_devices.specs.Streams.{GetsNothing, Stream}
use Rattle.rd_program.specs.declared.faults.ProgramFault.{ProgramFault}
use Rattle.rd_program.specs.declared.faults.ProgramFault.TheVariants as program
use Rattle.rd_program.specs.declared.setups.Done.{Done}
use Rattle.rd_program.specs.Endings.{EndsAs, TakesUnlessFailed}
use Rattle.rd_options.specs.declared.requests.OptionsFault.{OptionsFault}
use Rattle.rd_options.specs.declared.requests.OptionsFault.TheVariants.{Shown, Refused, TooManyFiles, SharedFile, NoMemory}

-- the outcome of a command line: the result of doing what it asks for, or why it gives no options
abbrev pub Outcome : Type 0
Outcome = Result (Result Done ProgramFault) OptionsFault

-- whether an outcome is `Shown`: help or the version, whose text is for standard output
abbrev pub is_shown : Outcome → Bool
is_shown (Err (Shown error)) = true
is_shown _ = false

-- how the program ends with this result if standard output gets nothing more: status and standard
-- error are as `EndsAs` says. The flag says whether standard output had failed before
abbrev pub EndsWithoutOutput : Result Done ProgramFault → ℕ → Bool → Stream → Stream → Type 0
EndsWithoutOutput done status had_failed output errors = EndsAs done status errors × GetsNothing had_failed output

-- how the program ends after an outcome: the status, and what the two streams get. The flag says
-- whether standard output had failed before. After `Ok` and `NoMemory`, it ends as `EndsAs` says.
-- `Shown` ends with status 0 and a text on standard output, `Refused` with status 2 and a text on
-- standard error; but if memory for that text is refused, the program ends as after `NoMemory`.
-- `TooManyFiles` and `SharedFile` end with status 2 and their own lines on standard error. No stream
-- gets anything else
abbrev pub Ends : Outcome → ℕ → Bool → Stream → Stream → Type 0
Ends (Ok done) status had_failed output errors = EndsWithoutOutput done status had_failed output errors
Ends (Err NoMemory) status had_failed output errors = EndsWithoutOutput (Err program.NoMemory) status had_failed output errors
Ends (Err TooManyFiles) status had_failed output errors = (status ≡ 2) × TakesUnlessFailed errors (codes "lcrqdb: 1 to 64 files\n") × GetsNothing had_failed output
Ends (Err SharedFile) status had_failed output errors = (status ≡ 2) × TakesUnlessFailed errors (codes "lcrqdb: no two viewers of --live can share a file\n") × GetsNothing had_failed output
Ends (Err (Shown error)) status had_failed output errors =
    EndsWithoutOutput (Err program.NoMemory) status had_failed output errors
    ⊎ ((text : String Global) × (status ≡ 0) × TakesUnlessFailed output (string_bytes text) × GetsNothing false errors)
Ends (Err (Refused error)) status had_failed output errors =
    EndsWithoutOutput (Err program.NoMemory) status had_failed output errors
    ⊎ ((text : String Global) × (status ≡ 2) × TakesUnlessFailed errors (string_bytes text) × GetsNothing had_failed output)
