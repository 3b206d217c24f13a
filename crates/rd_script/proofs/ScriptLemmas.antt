-- A script that runs: lines that a book answers one after another are obeyed by the headline.
use Rattle.rd_script.proofs.Prelude.{◌≡◌, ℕ, suc, map, List, [], ◌∷◌, ◌++◌, length, refl, sym, ◌∙◌, ap, arith, append_assoc, Result, Ok, Err, length-map, session_of, one_more_obeyed, Unread, map-append, book_state, Command, LineFault, ParsedLine, Says, append-nil, nil_from_length, AnswersParsedLine, AreAnswered, AreObeyedLines, BookAnswers, commands_of, line_answer, line_answers, Refusal, journal, AreObeyed, Book, Reply, BookState, LineAnswer}
use Rattle.std.proofs.lemmas.Slice.Zip.{all_zipped_more}
use Rattle.rd_marks.specs.Headline.{Headline}
use Rattle.rd_marks.proofs.Headlines.{book_runs}

commands_more : (said : List ParsedLine) (x : ParsedLine) → commands_of (said ++ x ∷ []) ≡ commands_of said ++ commands_of (x ∷ [])
commands_more [] x = refl
commands_more (s ∷ said) x = grind (arith, commands_more said x)

answered_each : (b : BookState) (cs : List Command) (given : List (Result Reply Refusal)) (last : BookState) → AreObeyed b cs given last → length given ≡ length cs
answered_each b [] [] last h = refl
answered_each b (c ∷ cs) (y ∷ ys) last h = ap suc (answered_each h.0 cs ys last h.2)
answered_each b _ _ last h = absurd h

answers_more : (said : List ParsedLine) (xs : List LineAnswer) (c : Command) (x : LineAnswer) → length xs ≡ length (commands_of said)
    → line_answers (said ++ Ok c ∷ []) (xs ++ x ∷ []) ≡ line_answers said xs ++ x ∷ []
answers_more [] xs c x h = rw (nil_from_length xs h) refl
answers_more (s ∷ said) xs c x h = grind (arith, answers_more said)

faults_more : (said : List ParsedLine) (xs : List LineAnswer) (f : LineFault) → line_answers (said ++ Err f ∷ []) xs ≡ line_answers said xs ++ Err (Unread f) ∷ []
faults_more [] xs f = refl
faults_more (s ∷ said) xs f = grind (arith, faults_more said)

-- one more line was done
module _ {R : ℕ} (before : BookState) (lines : List (List ℕ)) (answers : List LineAnswer) (book after : Book R) (h : AreObeyedLines before lines answers (book_state book) (journal (session_of book)))
    (start : (book_state after).session.start ≡ (book_state book).session.start) (line : List ℕ) (answer : LineAnswer) where
  headed : (cs : List Command) (given : List (Result Reply Refusal)) → AreObeyed before cs given (book_state after) → Headline before cs given (book_state after) (journal (session_of after))
  headed cs given answered = record { answered = answered; start = start ∙ h.headline.start; is_run = book_runs after }

  one_more_line : (said : ParsedLine) → Says line said → AnswersParsedLine (book_state book) said answer (book_state after)
      → AreObeyedLines before (lines ++ line ∷ []) (answers ++ answer ∷ []) (book_state after) (journal (session_of after))
  one_more_line (Err fault) says is = record {
    said = h.said ++ Err fault ∷ [];
    says = all_zipped_more Says lines h.said line (Err fault) h.says says;
    given = h.given;
    headline = headed _ _ (rw (commands_more, append-nil, is.1) h.headline.answered);
    each = rw (h.each, is.0, faults_more) refl;
  }
  one_more_line (Ok command) says is = record {
    said = h.said ++ Ok command ∷ [];
    says = all_zipped_more Says lines h.said line (Ok command) h.says says;
    given = h.given ++ is.0 ∷ [];
    headline = headed _ _ (rw commands_more (one_more_obeyed before (book_state book) (book_state after) (commands_of h.said) h.given command is.0 h.headline.answered is.1));
    each =
        let len = answered_each before (commands_of h.said) h.given (book_state book) h.headline.answered in
        (λ i. h.each i ++ is.2 i ∷ []) ∙ sym (answers_more h.said (map line_answer h.given) command (line_answer is.0) (length-map h.given line_answer ∙ len))
        ∙ ap (line_answers (h.said ++ Ok command ∷ [])) (sym (map-append line_answer h.given (is.0 ∷ [])));
  }

-- lines that were obeyed, and further lines that the book then answered, are lines that were obeyed
obeyed_on : {R : ℕ} (before : BookState) (lines : List (List ℕ)) (answers : List LineAnswer) (book after : Book R) (others : List (List ℕ)) (more : List LineAnswer)
    → AreObeyedLines before lines answers (book_state book) (journal (session_of book)) → AreAnswered BookAnswers book others more after
    → AreObeyedLines before (lines ++ others) (answers ++ more) (book_state after) (journal (session_of after))
obeyed_on before lines answers book after [] [] h on = rw (on, append-nil, append-nil) h
obeyed_on before lines answers book after [] (x ∷ more) h on = absurd on
obeyed_on before lines answers book after (line ∷ others) [] h on = absurd on
obeyed_on before lines answers book after (line ∷ others) (x ∷ more) h on =
    let is = on.1 in
    let here = one_more_line before lines answers book on.0 h is.3 line x is.0 is.1 is.2 in
    rw (append_assoc, append_assoc) at (obeyed_on before (lines ++ line ∷ []) (answers ++ x ∷ []) on.0 after others more here on.2)

-- lines that a book answers one after another are obeyed
pub obeyed_from_start : {R : ℕ} (book after : Book R) (lines : List (List ℕ)) (answers : List LineAnswer)
    → AreAnswered BookAnswers book lines answers after → AreObeyedLines (book_state book) lines answers (book_state after) (journal (session_of after))
obeyed_from_start book after lines answers on =
    let none : AreObeyedLines (book_state book) [] [] (book_state book) (journal (session_of book)) = record { said = []; says = tt; given = []; headline = record { answered = refl; start = refl; is_run = book_runs book }; each = refl } in
    obeyed_on (book_state book) [] [] book after lines answers none on
