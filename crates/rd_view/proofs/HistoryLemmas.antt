-- A history as one script.
use Rattle.rd_view.proofs.Prelude.{◌≡◌, ℕ, List, [], ◌∷◌, Ok, map, refl, ap, sym, AllByRecursion, AllZip, BookState, Call, Command, Says, commands_of, line_answers, lines_of}
use Rattle.std.specs.Prelude.{flat_map}
use Rattle.rd_journal.specs.Journal.{Journal}
use Rattle.rd_desk.specs.Histories.{CallsLeadTo}
use Rattle.rd_script.specs.Answers.{AreObeyedLines, line_answer}
use Rattle.rd_text.specs.Calls.{command_text}
use Rattle.rd_text.specs.Spelling.{spelling}
use Rattle.rd_view.specs.Reports.{SpellsItsCommand, script_text}

-- lines that spell commands alone have just these
commands_alone : (cs : List Command) → commands_of (map Ok cs) ≡ cs
commands_alone [] = refl
commands_alone (c ∷ cs) = ap (λ others. c ∷ others) (commands_alone cs)

-- the answers to the calls, one for each, are the answers to their lines
answers_alone : (es : List (ℕ × Call)) → line_answers (map Ok (map (λ (e : ℕ × Call). e.1.command) es)) (map line_answer (map (λ (e : ℕ × Call). e.1.answer) es)) ≡ map (λ (e : ℕ × Call). line_answer e.1.answer) es
answers_alone [] = refl
answers_alone (e ∷ es) = ap (λ others. line_answer e.1.answer ∷ others) (answers_alone es)

each_command : (es : List (ℕ × Call)) → AllByRecursion SpellsItsCommand es → AllByRecursion (λ (c : Command). Says (spelling c) (Ok c)) (map (λ (e : ℕ × Call). e.1.command) es)
each_command [] each = tt
each_command (e ∷ es) each = (each.0, each_command es each.1)

-- if the history's entries lead to a state, its script run over the opened book may get its answers,
-- and lead to that state; `say` has that lines of commands are read as these
pub is_a_run : (opened last : BookState) (kept : Journal) (es : List (ℕ × Call)) → AllByRecursion SpellsItsCommand es → CallsLeadTo opened es last kept
    → ((cs : List Command) → AllByRecursion (λ (c : Command). Says (spelling c) (Ok c)) cs → AllZip Says (lines_of (flat_map command_text cs)) (map Ok cs))
    → AreObeyedLines opened (lines_of (script_text es)) (map (λ (e : ℕ × Call). line_answer e.1.answer) es) last kept
is_a_run opened last kept es each leads say = record {
  said = map Ok (map (λ (e : ℕ × Call). e.1.command) es);
  says = say (map (λ (e : ℕ × Call). e.1.command) es) (each_command es each);
  given = map (λ (e : ℕ × Call). e.1.answer) es;
  headline = rw (commands_alone (map (λ (e : ℕ × Call). e.1.command) es)) leads;
  each = sym (answers_alone es);
}
