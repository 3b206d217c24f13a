-- The README's session has no other report, unless memory is refused.
use Rattle.std.specs.Prelude.{Result, Bool, true, false, Option, Some, None}
use Rattle.std.specs.List.{AllByRecursion, list_any}
use Rattle.std.proofs.Common.{sym, ◌∙◌, ap, subst}
use Rattle.std.specs.Io.KnownBytes.{Consumes, Appends, IsAtEnd}
use Rattle.rd_cell.specs.declared.refusal.Refusal.TheVariants as refusal
use Rattle.rd_step.specs.Prelude.{Refusal}
use Rattle.rd_journal.specs.Journal.{Journal}
use Rattle.rd_marks.specs.declared.commands.Command.{Command}
use Rattle.rd_marks.specs.declared.replies.Reply.{Reply}
use Rattle.rd_marks.specs.BookState.{BookState}
use Rattle.rd_marks.specs.Commands.{AreObeyed}
use Rattle.rd_marks.specs.Headline.{Headline}
use Rattle.rd_marks.specs.declared.commands.Command.TheVariants as command
use Rattle.rd_script.proofs.Prelude.{◌≡◌, ℕ, List, [], ◌∷◌, Ok, Err, refl, arith, AllZip, map, append-nil}
use Rattle.rd_text.specs.Lines.{ParsedLine, lines_of}
use Rattle.rd_text.specs.Spelling.{Says, IsSameCommand}
use Rattle.rd_text.specs.Lines.{commands_of}
use Rattle.rd_script.specs.Answers.{line_answer, line_answers, AreObeyedLines, report_of}
use Rattle.rd_text.specs.Replies.{LineAnswer}
use Rattle.rd_marks.specs.AnyBook.{fresh_state}
use Rattle.rd_devices.specs.Streams.{Devices}
use Rattle.rd_script.specs.Script.{RunsScript}
use Rattle.rd_text.proofs.SayLemmas.{said_as_spelled}
use Rattle.witness.specs.Session.{last, NoLineLacksMemory, HasOneReport, script, report}
use Rattle.witness.proofs.OneAnswer.{NoneLacksMemory, one_list}
use Rattle.witness.proofs.SessionLemmas.{◌also◌, commands, answers, spelled, headline, reported}

-- a command is the only one with its keyword and its arguments
abbrev IsOnly : Command → Type 0
IsOnly c = (d : Command) → IsSameCommand c d → d ≡ c

-- each command without a bookmark's name is such
only_enq : (actor value : ℕ) → IsOnly (command.Enq actor value)
only_enq actor value d h = grind arith

only_deq : (actor : ℕ) → IsOnly (command.Deq actor)
only_deq actor d h = grind arith

only_go : (actor : ℕ) → IsOnly (command.Go actor)
only_go actor d h = grind arith

only_origin : (k : ℕ) → IsOnly (command.Origin k)
only_origin k d h = grind arith

only_undo : (k : ℕ) → IsOnly (command.UndoAt k)
only_undo k d h = grind arith

only_step : (k : ℕ) → IsOnly (command.Step k)
only_step k d h = grind arith

only_redo : IsOnly command.Redo
only_redo d h = grind arith

only_roll : (k : ℕ) → IsOnly (command.Roll k)
only_roll k d h = grind arith

-- a line that spells such a command says nothing else
said_only : (line : List ℕ) (c : Command) (r : ParsedLine) → IsOnly c → Says line (Ok c) → Says line r → r ≡ Ok c
said_only line c (Ok d) only h k = ap Ok (only d (said_as_spelled line (Ok d) k c h.0 h.1 h.2))
said_only line c (Err fault) only h k = absurd (said_as_spelled line (Err fault) k c h.0 h.1 h.2)

-- and neither do several lines
all_said_only : (lines : List (List ℕ)) (cs : List Command) (said : List ParsedLine) → AllByRecursion IsOnly cs → AllZip Says lines (map Ok cs) → AllZip Says lines said
    → said ≡ map Ok cs
all_said_only [] [] [] only h k = refl
all_said_only (line ∷ lines) (c ∷ cs) (r ∷ rs) only h k =
    let first = said_only line c r only.0 h.0 k.0 in
    let rest = all_said_only lines cs rs only.1 h.1 k.1 in
    ap (λ (x : ParsedLine). x ∷ rs) first ∙ ap (λ (xs : List ParsedLine). Ok c ∷ xs) rest
all_said_only [] [] (r ∷ rs) only h k = absurd k
all_said_only [] (c ∷ cs) said only h k = absurd h
all_said_only (line ∷ lines) [] said only h k = absurd h
all_said_only (line ∷ lines) (c ∷ cs) [] only h k = absurd k

-- each command of the session is such
session_only : AllByRecursion IsOnly commands
session_only =
    only_enq 3 9 also only_enq 1 7 also only_go 1 also only_go 1 also only_go 1 also only_go 1 also only_go 1 also only_go 1
    also only_deq 2 also only_go 2 also only_go 2 also only_go 2 also only_go 2 also only_go 2
    also only_origin 14 also only_undo 8 also only_undo 1 also only_step 7 also only_redo also only_roll 7 also tt

-- if every line spells a command, the lines' answers are those of the commands
answers_kept : (b new : BookState) (cs : List Command) (given : List (Result Reply Refusal)) → AreObeyed b cs given new
    → line_answers (map Ok cs) (map line_answer given) ≡ map line_answer given
answers_kept b new [] [] h = refl
answers_kept b new (c ∷ cs) (x ∷ xs) h = ap (λ (rest : List LineAnswer). line_answer x ∷ rest) (answers_kept h.0 new cs xs h.2)
answers_kept b new [] (x ∷ xs) h = absurd h
answers_kept b new (c ∷ cs) [] h = absurd h

-- so the book's answers lack none
none_lacks : (given : List (Result Reply Refusal)) → NoLineLacksMemory (map line_answer given) → NoneLacksMemory given
none_lacks [] h = tt
none_lacks (x ∷ xs) h = ((λ e. h.0 (ap line_answer e)), none_lacks xs h.1)

-- whether an answer refuses memory
abbrev lacks : Result Reply Refusal → Bool
lacks (Err refusal.NoMemory) = true
lacks _ = false

-- if no answer of a list refuses memory by this test, none does
none_if_false : (given : List (Result Reply Refusal)) → list_any lacks given ≡ false → NoneLacksMemory given
none_if_false [] h = tt
none_if_false (x ∷ xs) h = ((λ e. grind arith), none_if_false xs (grind arith))

-- so the session has one report, and leaves one book
only_report : (said : List LineAnswer) (new : BookState) (kept : Journal) → AreObeyedLines (fresh_state 4 4) (lines_of script) said new kept
    → NoLineLacksMemory said → (report_of said ≡ report) × (new ≡ last)
only_report said new kept o h =
    let spells = all_said_only (lines_of script) commands o.said session_only spelled o.says in
    let obeyed = (subst (λ (s : List ParsedLine). Headline (fresh_state 4 4) (commands_of s) o.given new kept) spells o.headline).answered in
    let same : said ≡ map line_answer o.given =
    o.each ∙ ap (λ (s : List ParsedLine). line_answers s (map line_answer o.given)) spells ∙ answers_kept (fresh_state 4 4) new commands o.given obeyed in
    let one = one_list (fresh_state 4 4) new last commands o.given answers obeyed headline.answered
    (none_lacks o.given (subst NoLineLacksMemory same h)) (none_if_false answers refl) in
    (ap report_of (same ∙ ap (map line_answer) one.0) ∙ sym reported, one.1)

-- a source that came to its end gave all its bytes
all_given : (text given : List ℕ) (after : Option (List ℕ)) → Consumes (Some text) after given → IsAtEnd after → given ≡ text
all_given text given (Some rest) h ended = grind (arith, append-nil)
all_given text given None h ended = absurd h

-- a sink that had taken nothing has what was written
all_written : (text : List ℕ) (after : Option (List ℕ)) → Appends (Some []) after text → after ≡ Some text
all_written text (Some taken) h = ap Some h
all_written text None h = absurd h

-- what the clause of a run promises of the session's lines
pub has_one_report : (d : Devices) (new : BookState) (kept : Journal) (n : ℕ) → d.input.before ≡ Some script → d.output.before ≡ Some []
    → RunsScript (fresh_state 4 4) new kept d (Ok n) → HasOneReport d.output.after new
has_one_report d new kept n input output r =
    let all = all_given script r.given d.input.after (subst (λ (b : Option (List ℕ)). Consumes b d.input.after r.given) input r.took) r.ended in
    let lines = subst (λ (text : List ℕ). AreObeyedLines (fresh_state 4 4) (lines_of text) r.answers new kept) all r.done in
    record {
      answers = r.answers;
      took = all_written (report_of r.answers) d.output.after (subst (λ (b : Option (List ℕ)). Appends b d.output.after (report_of r.answers)) output r.wrote);
      one = only_report r.answers new kept lines;
    }
