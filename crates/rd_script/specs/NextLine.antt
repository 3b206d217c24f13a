-- What the reading of the next line does to its source and its buffer.
use Rattle.std.specs.Prelude.{◌≡◌, ◌≢◌, ℕ, ◌+◌, ◌^◌, ◌<◌, ◌≤◌, ◌⊎◌, Bool, true, List, [], ◌∷◌, ◌++◌, length, Option, Result, Ok, Err, MatchBool}
use Rattle.std.specs.Io.KnownBytes.{Consumes, IsAtEnd}
use Rattle.rd_devices.specs.declared.faults.ScriptFault.{ScriptFault}
use Rattle.rd_devices.specs.declared.faults.ScriptFault.TheVariants.{Read, Write}
use Rattle.rd_text.specs.Lines.{IsOneLine}
use Rattle.rd_text.specs.Spelling.{most_line_bytes}
use Rattle.rd_script.specs.declared.lines.Line.{Line}
use Rattle.rd_script.specs.declared.lines.Reading.{Reading}
use Rattle.rd_script.specs.declared.lines.Reading.TheVariants.{Ended, Last, End}

-- the buffer stands for this text: it keeps all bytes, or is marked too long if there are more than
-- 256
abbrev pub Holds : Line → List ℕ → Type 0
Holds line text = MatchBool line.is_too_long (most_line_bytes < length text) (line.kept.items ≡ text)

-- the source gave the bytes of a line (`text`) and then `ending`, and the buffer stands for the
-- line; the source's bytes went from `old` to `new`
pub record ReadsLine (old new : Option (List ℕ)) (line : Line) (ending : List ℕ) : Type 0 where
  -- the bytes of the line
  pub text : List ℕ
  pub is_one : IsOneLine text
  pub held : Holds line text
  pub took : Consumes old new (text ++ ending)

-- the source gave a line that isn't empty, and is at its end
pub record ReadsLast (old new : Option (List ℕ)) (line : Line) : Type 0 where
  pub read : ReadsLine old new line []
  pub some : read.text ≢ []
  pub ended : IsAtEnd new

-- the source gave a beginning of a line (`text`). Then it failed (`failed`), or `text` has at least
-- 2^64 - 1 bytes
pub record ReadsPart (old new : Option (List ℕ)) (failed : Bool) : Type 0 where
  -- the bytes that the source gave
  pub text : List ℕ
  pub is_one : IsOneLine text
  pub took : Consumes old new text
  pub cause : (failed ≡ true) ⊎ (2 ^ 64 ≤ length text + 1)

-- what the reading of the next line did to the source's bytes (`old`, `new`) and the buffer `line`,
-- by its result: `Ended` by a line feed, the `Last` line without one, the `End` of the text, or
-- `Read`, where `failed` says whether the source has failed; false for `Write`
abbrev pub ReadsNext : Option (List ℕ) → Option (List ℕ) → Bool → Line → Result Reading ScriptFault → Type 0
ReadsNext old new failed line (Ok Ended) = ReadsLine old new line (10 ∷ [])
ReadsNext old new failed line (Ok Last) = ReadsLast old new line
ReadsNext old new failed line (Ok End) = Consumes old new [] × IsAtEnd new
ReadsNext old new failed line (Err Read) = ReadsPart old new failed
ReadsNext old new failed line (Err Write) = ⊥
