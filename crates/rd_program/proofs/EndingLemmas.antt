-- What a stream takes of a text that is handed over in parts.
use Rattle.std.proofs.Common.{◌≡◌, ◌∙◌, ◌<◌, true, false, ℕ, ◌+◌, List, ◌++◌, drop, get_or, length, Option, Result, Ok, Err, sym, ap, append_assoc}
use Rattle.std.specs.Prelude.{OnOk, OnErr}
use Rattle.std.specs.Io.KnownBytes.{Appends}
use Rattle.std.proofs.KnownBytes.{Appends-trans}
use Rattle.std.proofs.lemmas.List.{drop_more}
use Rattle.rd_devices.specs.declared.faults.ScriptFault.{ScriptFault}
use Rattle.rd_devices.specs.Device.{TakesBeginning}
use Rattle.rd_devices.specs.Streams.{Stream}
use Rattle.rd_view.specs.declared.live.ViewerEnd.{ViewerEnd}
use Rattle.rd_program.specs.Endings.{TakesUnlessFailed, viewer_line, viewer_lines}

-- a stream that failed in the first part of a text took a beginning of the whole text
pub takes_front : (s : Stream) (front back : List ℕ) → s.failed ≡ true → TakesBeginning s.before s.after front → TakesUnlessFailed s (front ++ back)
takes_front s front back fails took = rw fails (record {
  part = took.part;
  took = took.took;
  begins = (took.begins.0 ++ back, sym (append_assoc took.part took.begins.0 back) ∙ ap (λ l. l ++ back) took.begins.1);
})

-- a stream that took the first part of a text, and then the second or, if it failed, a beginning of
-- the second, took the text as `TakesUnlessFailed` says
pub takes_both : (s : Stream) (mid : Option (List ℕ)) (front back : List ℕ) (r : Result (Unit {0}) ScriptFault) → Appends s.before mid front
    → OnOk r (Appends mid s.after back) → OnErr r (TakesBeginning mid s.after back) → OnOk r (s.failed ≡ false) → OnErr r (s.failed ≡ true) → TakesUnlessFailed s (front ++ back)
takes_both s mid front back (Ok _) first ok err works fails = rw works (Appends-trans s.before mid s.after front back first ok)
takes_both s mid front back (Err _) first ok err works fails = rw fails (record {
  part = front ++ err.part;
  took = Appends-trans s.before mid s.after front err.part first err.took;
  begins = (err.begins.0, append_assoc front err.part err.begins.0 ∙ ap (λ l. front ++ l) err.begins.1);
})

-- a stream has taken the lines for the viewers before the i-th, counted from 0, and was then given
-- the line for that one
module _ (s : Stream) (mid : Option (List ℕ)) (front : List ℕ) (ends : List ViewerEnd) (i : ℕ) (d : ViewerEnd) (within : i < length ends) (first : Appends s.before mid front) (so_far : front ++ viewer_lines (i + 1) (drop i ends) ≡ viewer_lines 1 ends) (took : TakesUnlessFailed (record s { before = mid }) (viewer_line (i + 1) (get_or ends i d))) where
  -- this line, and those behind it
  abbrev pub line : List ℕ
  line = viewer_line (i + 1) (get_or ends i d)

  abbrev pub back : List ℕ
  back = viewer_lines (i + 1 + 1) (drop (i + 1) ends)

  -- the front, this line and those after it are all lines
  whole : front ++ (line ++ back) ≡ viewer_lines 1 ends
  whole = ap (λ es. front ++ viewer_lines (i + 1) es) (sym (drop_more ends i d within)) ∙ so_far

  -- if it has not failed, it has taken one line more
  pub takes_line : s.failed ≡ false → (more : List ℕ) × Appends s.before s.after more × (more ++ back ≡ viewer_lines 1 ends)
  takes_line works = (front ++ line, Appends-trans s.before mid s.after front line first (rw works at took), append_assoc front line back ∙ whole)

  -- if it failed, it has taken a beginning of all lines
  pub takes_part : s.failed ≡ true → TakesUnlessFailed s (viewer_lines 1 ends)
  takes_part fails =
      let begun : TakesBeginning mid s.after line = rw fails at took in
      rw fails (record {
        part = front ++ begun.part;
        took = Appends-trans s.before mid s.after front begun.part first begun.took;
        begins = (begun.begins.0 ++ back, append_assoc front begun.part (begun.begins.0 ++ back) ∙ ap (λ l. front ++ l) (sym (append_assoc begun.part begun.begins.0 back) ∙ ap (λ l. l ++ back) begun.begins.1) ∙ whole);
      })
