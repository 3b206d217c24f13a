-- A conversation: lines are read from a source, and the answer to each is written to a sink before
-- the next one is read. What it did is stated for each way to end.
use mathlib.Core.List.{IsPrefix}
use Rattle.std.specs.Prelude.{◌≡◌, ℕ, ◌+◌, ◌^◌, ◌≤◌, ◌⊎◌, true, false, List, [], ◌∷◌, ◌++◌, flat_map, length, Result, Ok, Err}
use Rattle.std.specs.Io.KnownBytes.{Consumes, Appends, IsAtEnd}
use Rattle.rd_devices.specs.declared.faults.ScriptFault.{ScriptFault}
use Rattle.rd_devices.specs.declared.faults.ScriptFault.TheVariants.{Read, Write}
use Rattle.rd_devices.specs.Streams.{Devices}
use Rattle.rd_text.specs.Lines.{lines_of, ended_lines_of}

-- the lines were answered one after another, with one answer each. R relates what answers before a
-- line, the line, its answer and what answers after it. This leads from `first` to `last`
abbrev pub AreAnswered : {S A : Type 0} → (S → List ℕ → A → S → Type 0) → S → List (List ℕ) → List A → S → Type 0
AreAnswered R first [] [] last = last ≡ first
AreAnswered R first [] (answer ∷ answers) last = ⊥
AreAnswered R first (line ∷ lines) [] last = ⊥
AreAnswered {S = S} R first (line ∷ lines) (answer ∷ answers) last = (next : S) × R first line answer next × AreAnswered R next lines answers last

-- `text_of` gives the line of an answer, with its line feed. `Done` is what became of the lines
-- that were answered: it relates them to their answers
module _ {A : Type 0} (text_of : A → List ℕ) (Done : List (List ℕ) → List A → Type 0) where
  -- the conversation came to the end. The source gave `given`, which has n lines, and is at its
  -- end. All lines were answered, the answers were written, and neither device has failed
  pub record CameToEnd (d : Devices) (n : ℕ) : Type 0 where
    pub in_works : d.input.failed ≡ false
    pub out_works : d.output.failed ≡ false
    pub given : List ℕ
    pub took : Consumes d.input.before d.input.after given
    pub ended : IsAtEnd d.input.after
    pub counted : length (lines_of given) ≡ n
    pub answers : List A
    pub done : Done (lines_of given) answers
    pub wrote : Appends d.output.before d.output.after (flat_map text_of answers)

  -- the source failed, or gave at least 2^64 - 1 bytes (`given`). Each line that a line feed ended
  -- was answered, the answers were written, and the sink has not failed
  pub record StoppedAtRead (d : Devices) : Type 0 where
    pub out_works : d.output.failed ≡ false
    pub given : List ℕ
    pub took : Consumes d.input.before d.input.after given
    pub cause : (d.input.failed ≡ true) ⊎ (2 ^ 64 ≤ length given + 1)
    pub answers : List A
    pub done : Done (ended_lines_of given) answers
    pub wrote : Appends d.output.before d.output.after (flat_map text_of answers)

  -- the sink failed at the last answer, and the source has not failed. All lines that were read
  -- were answered. All answers but the last were written, and a beginning of the last one
  pub record StoppedAtWrite (d : Devices) : Type 0 where
    pub in_works : d.input.failed ≡ false
    pub out_failed : d.output.failed ≡ true
    pub given : List ℕ
    pub took : Consumes d.input.before d.input.after given
    -- the last line was read whole: a line feed ended it, or the end of the source
    pub whole : (ended_lines_of given ≡ lines_of given) ⊎ IsAtEnd d.input.after
    -- the answers to all lines but the last, and the answer to the last one
    pub answers : List A
    pub last : A
    pub done : Done (lines_of given) (answers ++ last ∷ [])
    -- the part of the last answer's line that was written
    pub part : List ℕ
    pub begins : IsPrefix part (text_of last)
    pub wrote : Appends d.output.before d.output.after (flat_map text_of answers ++ part)

  -- what a conversation did, by its result: the number of lines, or the fault that stopped it; `d`
  -- is how the devices changed
  abbrev pub Converses : Devices → Result ℕ ScriptFault → Type 0
  Converses d (Ok n) = CameToEnd d n
  Converses d (Err Read) = StoppedAtRead d
  Converses d (Err Write) = StoppedAtWrite d
