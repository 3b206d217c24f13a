-- What the program does for the words of a command line, over files and streams. `remaining` gives
-- the bytes that an opened file has left and `contents` those that were written to it, where they
-- are known, and `text` the text of a word. With `traced`, a trace follows the report of a run that
-- came to its end.
use Rattle.std.specs.Prelude.{◌≡◌, ◌≢◌, ◌⊎◌, ℕ, Bool, true, false, List, [], ◌∷◌, codes, length, map, Option, None, Some, IfSome, Result, Ok, Err, Vec}
use Rattle.std.specs.Borrow.{Bor}
use Rattle.std.specs.Global.{Global}
use Rattle.clap.specs.Walk.{Text}
use Rattle.rd_journal.specs.Journal.{Journal}
use Rattle.rd_marks.specs.BookState.{BookState}
use Rattle.rd_desk.specs.Histories.{entries}
use Rattle.rd_devices.specs.declared.sources.ReadSource.{ReadSource}
use Rattle.rd_devices.specs.declared.sinks.WriteSink.{WriteSink}
use Rattle.rd_devices.specs.Streams.{Devices, IsUnused, Stream, reader_source, writer_sink}
use Rattle.rd_marks.specs.Ring.{ring_length}
use Rattle.rd_marks.specs.AnyBook.{any_journal, any_state, fresh_state}
use Rattle.rd_marks.specs.declared.any_book.AnyBook.{AnyBook}
use Rattle.rd_program.specs.declared.faults.ProgramFault.{ProgramFault}
use Rattle.rd_program.specs.declared.faults.ProgramFault.TheVariants as program
use Rattle.rd_program.specs.Program.{IsReadOrNoMemory, LoadsBook, PlaysOver, AreUnused}
use Rattle.rd_view.specs.declared.live.ViewerEnd.{ViewerEnd}
use Rattle.rd_program.specs.Live.{ViewsLive}
use Rattle.rd_program.specs.Viewers.{ViewsOver}
use Rattle.rd_program.specs.declared.setups.Done.{Done}
use Rattle.rd_program.specs.declared.setups.Done.TheVariants.{Counted, Lived}
use Rattle.rd_program.specs.declared.setups.Left.{Left}
use Rattle.rd_program.specs.declared.setups.ViewExtras.{ViewExtras}
use Rattle.rd_options.specs.declared.requests.Options.{Options}
use Rattle.rd_options.specs.declared.requests.Options.TheVariants.{Run, View, Load}
use Rattle.rd_options.specs.declared.requests.OptionsFault.{OptionsFault}
use Rattle.rd_command_line.specs.Outcomes.{Ends, Outcome}
use Rattle.rd_options.specs.CommandLine.{GivesFault, GivesOptions}

-- the text is all that an opened file has left to give, as `remaining` says; where `remaining` says
-- nothing, it may be any text
abbrev pub IsWholeText : {F : Type 0} → (F → Option (List ℕ)) → F → List ℕ → Type 0
IsWholeText remaining opened text = IfSome (remaining opened) (λ bytes. text ≡ bytes)

-- the texts are the whole texts of these opened files, one each, in order
abbrev pub AreWholeTexts : {F : Type 0} → (F → Option (List ℕ)) → List F → List (Vec ℕ Global) → Type 0
AreWholeTexts remaining [] [] = Unit {0}
AreWholeTexts remaining [] (text ∷ texts) = ⊥
AreWholeTexts remaining (opened ∷ files) [] = ⊥
AreWholeTexts remaining (opened ∷ files) (text ∷ texts) =
    IsWholeText remaining opened text.items × AreWholeTexts remaining files texts

-- the result of opening the script of a name: no file for `-`, which stands for the input; for any
-- other name a file, or `Read` if it can't be opened
abbrev pub OpensScript : {F : Type 0} → Text → Result (Option F) ProgramFault → Type 0
OpensScript name (Ok None) = name ≡ codes "-"
OpensScript name (Ok (Some opened)) = name ≢ codes "-"
OpensScript name (Err fault) = (name ≢ codes "-") × (fault ≡ program.Read)

-- what playing a script did over a book, which went from `before` to `after` and keeps the journal
-- `kept`. With a file, the script was all that the file has left to give, and the input was not
-- used; without one, the script was on the input
abbrev pub PlaysFileOrInput : {F : Type 0} → (F → Option (List ℕ)) → Option F → BookState → BookState → Journal → Bool → Devices → Result ℕ ProgramFault → Type 0
PlaysFileOrInput remaining None before after kept traced d result = PlaysOver before after kept traced d result
PlaysFileOrInput remaining (Some opened) before after kept traced d result =
    IsUnused d.input × ((file : Stream) × (file.before ≡ remaining opened) × PlaysOver before after kept traced (record d { input = file }) result)

-- what `run` did for the script of a name and a book in the state `before`. Its file could not be
-- opened (`Read`), and neither stream was used. Or the script was opened; then memory for the book
-- was refused (`NoMemory`), and neither stream was used, or the script was played over the book,
-- which became the book `last`
abbrev pub RunsFile : {F : Type 0} → (F → Option (List ℕ)) → Text → BookState → Bool → Devices → Result ℕ ProgramFault → Type 0
RunsFile {F} remaining name before traced d result =
    ((name ≢ codes "-") × (result ≡ Err program.Read) × AreUnused d)
    ⊎ ((file : Option F) × OpensScript name (Ok file)
    × (((result ≡ Err program.NoMemory) × AreUnused d)
    ⊎ ((last : AnyBook) × PlaysFileOrInput remaining file before (any_state last) (any_journal last) traced d result)))

-- the result of loading the trace in a file: the file was not read whole (`IsReadOrNoMemory` has the
-- faults); or it was opened, and its whole text was loaded
abbrev pub LoadsFile : {F : Type 0} → (F → Option (List ℕ)) → Result AnyBook ProgramFault → Type 0
LoadsFile {F} remaining result =
    ((fault : ProgramFault) × (result ≡ Err fault) × IsReadOrNoMemory fault)
    ⊎ ((opened : F) × (text : List ℕ) × IsWholeText remaining opened text × LoadsBook text result)

-- what `load` did: the trace in a file was not loaded, and neither stream was used; or it was loaded
-- as a book, and the script on the input was played over it, which led to the book `last`
abbrev pub ResumesFile : {F : Type 0} → (F → Option (List ℕ)) → Bool → Devices → Result ℕ ProgramFault → Type 0
ResumesFile remaining traced d result =
    ((fault : ProgramFault) × (result ≡ Err fault) × LoadsFile remaining (Err fault) × AreUnused d)
    ⊎ ((book : AnyBook) × LoadsFile remaining (Ok book) × (last : AnyBook) × PlaysOver (any_state book) (any_state last) (any_journal last) traced d result)

-- the result of opening a book: without the name of a trace to start with, a book in this state,
-- or `NoMemory`; with one, what loading the trace in a file gives
abbrev pub OpensBook : {F : Type 0} → (F → Option (List ℕ)) → Option (Bor Text) → BookState → Result AnyBook ProgramFault → Type 0
OpensBook remaining None before (Ok book) = any_state book ≡ before
OpensBook remaining None before (Err fault) = fault ≡ program.NoMemory
OpensBook remaining (Some name) before result = LoadsFile remaining result

-- what `view` did. No book was opened, or a file was not read whole (`IsReadOrNoMemory` has the
-- faults), and the output was not used. Or a book was opened, without the name of a trace in this
-- state; this many files were opened, and their whole texts were viewed as scripts over this book,
-- with these extras
abbrev pub ViewsFiles : {F : Type 0} → (F → Option (List ℕ)) → Option (Bor Text) → ℕ → BookState → ViewExtras → Stream → Result Left ProgramFault → Type 0
ViewsFiles {F} remaining start count before extras output result =
    ((fault : ProgramFault) × (result ≡ Err fault) × (OpensBook remaining start before (Err fault) ⊎ IsReadOrNoMemory fault) × IsUnused output)
    ⊎ ((book : AnyBook) × OpensBook remaining start before (Ok book)
    × ((files : List F) × (scripts : List (Vec ℕ Global)) × (length files ≡ count)
    × AreWholeTexts remaining files scripts × ViewsOver (any_state book) scripts extras output result))

-- a source over an opened file, and a sink over one, of which nothing was used yet
abbrev pub OpensFiles : {F : Type 0} → (F → Option (List ℕ)) → (F → Option (List ℕ)) → ReadSource F → WriteSink F → Type 0
OpensFiles {F} remaining contents reader writer =
    (read : F) × (replies : F) × ((reader_source remaining).bytes reader ≡ remaining read) × ((writer_sink contents).contents writer ≡ contents replies)

-- what `view --live` did for files of these names. No book was opened, or memory was refused, and
-- the output was not used. Or a book was opened, without the name of a trace in this state; then
-- viewers were there at once over it, one for each name: it read one file, and its replies went to
-- another one
abbrev pub ViewsFilesLive : {F : Type 0} → (F → Option (List ℕ)) → (F → Option (List ℕ)) → Option (Bor Text) → List Text → BookState → ViewExtras → Stream → Result (Vec ViewerEnd Global × Left) ProgramFault → Type 0
ViewsFilesLive remaining contents start names before extras output result =
    ((fault : ProgramFault) × (result ≡ Err fault) × (OpensBook remaining start before (Err fault) ⊎ (fault ≡ program.NoMemory)) × IsUnused output)
    ⊎ ((book : AnyBook) × OpensBook remaining start before (Ok book)
    × ViewsLive (λ name. OpensFiles remaining contents) (reader_source remaining) (writer_sink contents) (any_state book) names extras output result)

-- what was done, from a number of lines
abbrev pub counted : Result ℕ ProgramFault → Result Done ProgramFault
counted (Ok lines) = Ok (Counted lines)
counted (Err fault) = Err fault

-- what was done, from what viewers left: the number of their calls
abbrev pub recorded : Result Left ProgramFault → Result Done ProgramFault
recorded (Ok left) = Ok (Counted (length (entries left.history)))
recorded (Err fault) = Err fault

-- what was done, from how viewers ended that were there at once, and what they left
abbrev pub lived : Result (Vec ViewerEnd Global × Left) ProgramFault → Result Done ProgramFault
lived (Ok done) = Ok (Lived done.0)
lived (Err fault) = Err fault

-- what `view` did for files of these names, over a book in this state without the name of a trace to
-- start with, by whether its viewers were there at once
abbrev pub Views : {F : Type 0} → (F → Option (List ℕ)) → (F → Option (List ℕ)) → Bool → Option (Bor Text) → List Text → BookState → ViewExtras → Stream → Result Done ProgramFault → Type 0
Views remaining contents true start names before extras output result =
    (done : Result (Vec ViewerEnd Global × Left) ProgramFault) × (result ≡ lived done) × ViewsFilesLive remaining contents start names before extras output done
Views remaining contents false start names before extras output result =
    (left : Result Left ProgramFault) × (result ≡ recorded left) × ViewsFiles remaining start (length names) before extras output left

-- what the program did for these options, with this result: `run` and `view` over the options'
-- fresh world, `load` and `view --start` over the book of a trace. `view` does not use the input
abbrev pub FollowsOptions : {F : Type 0} → (F → Option (List ℕ)) → (F → Option (List ℕ)) → Options → Devices → Result Done ProgramFault → Type 0
FollowsOptions remaining contents (Run file actors ring trace) d result =
    (lines : Result ℕ ProgramFault) × (result ≡ counted lines) × RunsFile remaining file.now (fresh_state (ring_length ring) actors) trace d lines
FollowsOptions remaining contents (View files actors ring start live history trace) d result =
    IsUnused d.input
    × Views remaining contents live start (map (λ file. file.now) files.items) (fresh_state (ring_length ring) actors) (record { history = history; trace = trace }) d.output result
FollowsOptions remaining contents (Load file trace) d result =
    (lines : Result ℕ ProgramFault) × (result ≡ counted lines) × ResumesFile remaining trace d lines

-- the outcome of these words: they give options, and the outcome is the result of doing what these
-- ask for; or the outcome is a fault with which the words end, and neither stream was used
abbrev pub FollowsWords : {F : Type 0} → (F → Option (List ℕ)) → (F → Option (List ℕ)) → List Text → Devices → Outcome → Type 0
FollowsWords remaining contents words d outcome =
    ((options : Options) × (done : Result Done ProgramFault) × GivesOptions words options
    × FollowsOptions remaining contents options d done × (outcome ≡ Ok done))
    ⊎ ((fault : OptionsFault) × GivesFault words fault × (outcome ≡ Err fault) × AreUnused d)

-- the outcome of words that may have been taken from the system: if they were, the outcome of these
-- words; if not, the fault, with neither stream used
abbrev pub FollowsWordsOrFault : {F S : Type 0} → (F → Option (List ℕ)) → (F → Option (List ℕ)) → (S → Text) → Result (Vec S Global) OptionsFault → Devices → Outcome → Type 0
FollowsWordsOrFault remaining contents text (Ok words) d outcome = FollowsWords remaining contents (map text words.items) d outcome
FollowsWordsOrFault remaining contents text (Err fault) d outcome = (outcome ≡ Err fault) × AreUnused d

-- what the program did from its words to its end: `does` has how it came to its outcome, and `ends`
-- how it ended after the outcome
pub record RunsCommandLine {F S : Type 0} (remaining contents : F → Option (List ℕ)) (text : S → Text) (words : Result (Vec S Global) OptionsFault) (status : ℕ) (d : Devices) (errors : Stream) : Type 0 where
  pub outcome : Outcome
  -- the bytes that the output had at the outcome, and whether it had failed
  pub reported : Option (List ℕ)
  pub report_failed : Bool
  pub does : FollowsWordsOrFault remaining contents text words
      (record d { output = record d.output { after = reported; failed = report_failed } }) outcome
  pub ends : Ends outcome status report_failed (record d.output { before = reported }) errors
