-- A conversation that goes on: the bytes that were given so far, their lines and the answers.
use Rattle.rd_script.proofs.Prelude.{◌≡◌, ◌≢◌, ◌⊎◌, ℕ, ◌+◌, ◌-◌, ◌^◌, ◌≤◌, Bool, true, false, List, [], ◌∷◌, ◌++◌, length, Option, refl, sym, ◌∙◌, ap, arith, inl, inr, append_assoc, length-append, Result, Ok, Err, flat_map, flat_map-append, ne_eqb, append-nil, Consumes, Appends, IsAtEnd, onto_first, lines_of, ended_lines_of, IsOneLine, ReadsNext, ScriptFault, Read, Write, Devices, Line, AreAnswered, CameToEnd, Converses, StoppedAtRead, StoppedAtWrite, TakesBeginning, Consumes-nil, Consumes-trans, Appends-nil, Appends-trans}
use Rattle.rd_text.proofs.TextLemmas.{lines-first, ended-first}

-- a text without a line feed is one line, which no line feed ended
lines-last : (text : List ℕ) → IsOneLine text → text ≢ [] → lines_of text ≡ text ∷ []
lines-last [] h n = absurd (n refl)
lines-last (x ∷ []) h n = rw (ne_eqb x 10 h.0) refl
lines-last (x ∷ y ∷ ys) h n = rw (ne_eqb x 10 h.0) (ap (onto_first x) (lines-last (y ∷ ys) h.1 (λ e. cc)))

ended-none : (text : List ℕ) → IsOneLine text → ended_lines_of text ≡ []
ended-none [] h = refl
ended-none (x ∷ xs) h = rw (ne_eqb x 10 h.0, ended-none xs h.1) refl

-- each line of `given` is ended by a line feed: the lines of any text after it are the same as
-- without it
pub record IsWholeLines (given : List ℕ) : Type 0 where
  pub all : (rest : List ℕ) → lines_of (given ++ rest) ≡ lines_of given ++ lines_of rest
  pub ended : (rest : List ℕ) → ended_lines_of (given ++ rest) ≡ lines_of given ++ ended_lines_of rest

-- `given` is whole lines, and one more line follows
module _ (given line : List ℕ) (whole : IsWholeLines given) (is_one : IsOneLine line) where
  pub line_more : lines_of (given ++ (line ++ 10 ∷ [])) ≡ lines_of given ++ line ∷ []
  line_more = rw (whole.all, lines-first line [] is_one) refl

  pub last_line_more : line ≢ [] → lines_of (given ++ (line ++ [])) ≡ lines_of given ++ line ∷ []
  last_line_more some = rw (append-nil line, whole.all, lines-last line is_one some) refl

  pub whole_more : IsWholeLines (given ++ (line ++ 10 ∷ []))
  whole_more = grind (arith, append_assoc, lines-first, ended-first)

-- such bytes alone have no other lines
pub ended-whole : (given : List ℕ) → IsWholeLines given → ended_lines_of given ≡ lines_of given
ended-whole given whole = ap ended_lines_of (sym (append-nil given)) ∙ (whole.ended [] ∙ append-nil (lines_of given))

-- one more line was answered
pub one_more_answered : {S A : Type 0} (R : S → List ℕ → A → S → Type 0) (first now next : S) (lines : List (List ℕ)) (answers : List A) (line : List ℕ) (answer : A)
    → AreAnswered R first lines answers now → R now line answer next → AreAnswered R first (lines ++ line ∷ []) (answers ++ answer ∷ []) next
one_more_answered R first now next [] [] line answer h is = (next, rw h at is, refl)
one_more_answered R first now next [] (a ∷ answers) line answer h is = absurd h
one_more_answered R first now next (l ∷ lines) [] line answer h is = absurd h
one_more_answered R first now next (l ∷ lines) (a ∷ answers) line answer h is = (h.0, h.1, one_more_answered R h.0 now next lines answers line answer h.2 is)

-- what is weaker of the answered lines is weaker of the conversation
pub Converses-weaker : {A : Type 0} (text_of : A → List ℕ) (P Q : List (List ℕ) → List A → Type 0) → ((lines : List (List ℕ)) (answers : List A) → P lines answers → Q lines answers)
    → (d : Devices) (r : Result ℕ ScriptFault) → Converses text_of P d r → Converses text_of Q d r
Converses-weaker text_of P Q weaker d (Ok n) c = record {
  in_works = c.in_works;
  out_works = c.out_works;
  given = c.given;
  took = c.took;
  ended = c.ended;
  counted = c.counted;
  answers = c.answers;
  done = weaker _ _ c.done;
  wrote = c.wrote;
}
Converses-weaker text_of P Q weaker d (Err Read) c =
    record { out_works = c.out_works; given = c.given; took = c.took; cause = c.cause; answers = c.answers; done = weaker _ _ c.done; wrote = c.wrote }
Converses-weaker text_of P Q weaker d (Err Write) c = record {
  in_works = c.in_works;
  out_failed = c.out_failed;
  given = c.given;
  took = c.took;
  whole = c.whole;
  answers = c.answers;
  last = c.last;
  done = weaker _ _ c.done;
  part = c.part;
  begins = c.begins;
  wrote = c.wrote;
}

-- whatever came of a conversation, there are lines that were answered
pub some_answered : {A : Type 0} (text_of : A → List ℕ) (P : List (List ℕ) → List A → Type 0) (d : Devices) (r : Result ℕ ScriptFault) → Converses text_of P d r → (lines : List (List ℕ)) × (answers : List A) × P lines answers
some_answered text_of P d (Ok n) c = (lines_of c.given, c.answers, c.done)
some_answered text_of P d (Err Read) c = (ended_lines_of c.given, c.answers, c.done)
some_answered text_of P d (Err Write) c = (lines_of c.given, c.answers ++ c.last ∷ [], c.done)

-- the devices of a conversation that has not begun
abbrev devices_at : Option (List ℕ) → Bool → Option (List ℕ) → Bool → Devices
devices_at in_now in_failed out_now out_failed = record {
  input = record { before = in_now; after = in_now; failed = in_failed };
  output = record { before = out_now; after = out_now; failed = out_failed };
}

module _ {S A : Type 0} (text_of : A → List ℕ) (R : S → List ℕ → A → S → Type 0) (first : S) where
  -- what the conversation states of the lines that were answered, if it leaves `now`
  abbrev DoneBy : S → List (List ℕ) → List A → Type 0
  DoneBy now lines answers = AreAnswered R first lines answers now

  -- n whole lines were read, answered and their answers written, and both devices work
  pub record IsGoingOn (now : S) (d : Devices) (n : ℕ) : Type 0 where
    pub in_works : d.input.failed ≡ false
    pub out_works : d.output.failed ≡ false
    pub given : List ℕ
    pub took : Consumes d.input.before d.input.after given
    pub whole : IsWholeLines given
    pub counted : length (lines_of given) ≡ n
    pub enough : n ≤ length given
    pub answers : List A
    pub done : AreAnswered R first (lines_of given) answers now
    pub wrote : Appends d.output.before d.output.after (flat_map text_of answers)

  -- before the first line, nothing was done
  pub starts : (in_now : Option (List ℕ)) (in_failed : Bool) (out_now : Option (List ℕ)) (out_failed : Bool) → in_failed ≡ false → out_failed ≡ false → IsGoingOn first (devices_at in_now in_failed out_now out_failed) 0
  starts in_now in_failed out_now out_failed in_works out_works = record {
    in_works = in_works;
    out_works = out_works;
    given = [];
    took = Consumes-nil in_now;
    whole = record { all = λ rest. refl; ended = λ rest. refl };
    counted = refl;
    enough = omega arith;
    answers = [];
    done = refl;
    wrote = Appends-nil out_now;
  }

  module _ (now : S) (d : Devices) (n : ℕ) (g : IsGoingOn now d n) where
    -- the devices after more calls
    abbrev now_at : Option (List ℕ) → Bool → Option (List ℕ) → Bool → Devices
    now_at in_new in_failed' out_new out_failed' = record {
      input = record d.input { after = in_new; failed = in_failed' };
      output = record d.output { after = out_new; failed = out_failed' };
    }

    -- the source is at its end, so the conversation came to the end
    pub came_to_end : (in_new : Option (List ℕ)) (in_failed' : Bool) → Consumes d.input.after in_new [] → IsAtEnd in_new → in_failed' ≡ false
        → CameToEnd text_of (DoneBy now) (now_at in_new in_failed' d.output.after d.output.failed) n
    came_to_end in_new in_failed' keeps ended in_works = record {
      in_works = in_works;
      out_works = g.out_works;
      given = g.given;
      took = rw append-nil at (Consumes-trans d.input.before d.input.after in_new g.given [] g.took keeps);
      ended = ended;
      counted = g.counted;
      answers = g.answers;
      done = g.done;
      wrote = g.wrote;
    }

    -- the source gave a part of a line, and failed or gave 2^64 - 1 bytes in all
    stopped_in_line : (in_new : Option (List ℕ)) (in_failed' : Bool) (part : List ℕ) → IsOneLine part → Consumes d.input.after in_new part → (in_failed' ≡ true) ⊎ (2 ^ 64 ≤ length (g.given ++ part) + 1)
        → StoppedAtRead text_of (DoneBy now) (now_at in_new in_failed' d.output.after d.output.failed)
    stopped_in_line in_new in_failed' part is_one took cause = record {
      out_works = g.out_works;
      given = g.given ++ part;
      took = Consumes-trans d.input.before d.input.after in_new g.given part g.took took;
      cause = cause;
      answers = g.answers;
      done = rw (g.whole.ended, ended-none part is_one, append-nil) g.done;
      wrote = g.wrote;
    }

    pub stopped_at_read : (in_new : Option (List ℕ)) (in_failed' : Bool) (line : Line) (fault : ScriptFault) → ReadsNext d.input.after in_new in_failed' line (Err fault)
        → Converses text_of (DoneBy now) (now_at in_new in_failed' d.output.after d.output.failed) (Err fault)
    stopped_at_read in_new in_failed' line Write none = absurd none
    stopped_at_read in_new in_failed' line Read part =
        stopped_in_line in_new in_failed' part.text part.is_one part.took (elim part.cause [ inl failed ↦ inl failed | inr many ↦ inr (omega (arith, many, length-append g.given part.text)) ])

    -- 2^64 - 1 lines were read without an end
    pub stopped_endless : n ≡ 2 ^ 64 - 1 → StoppedAtRead text_of (DoneBy now) (now_at d.input.after d.input.failed d.output.after d.output.failed)
    stopped_endless most = stopped_in_line d.input.after d.input.failed [] tt (Consumes-nil _) (inr (omega (arith, g.enough, length-append g.given [])))

    -- one more line was read and answered
    module _ (line : List ℕ) (answer : A) (next : S) (is : R now line answer next) where
      more : AreAnswered R first (lines_of g.given ++ line ∷ []) (g.answers ++ answer ∷ []) next
      more = one_more_answered R first now next (lines_of g.given) g.answers line answer g.done is

      wrote_more : (out_new : Option (List ℕ)) → Appends d.output.after out_new (text_of answer) → Appends d.output.before out_new (flat_map text_of (g.answers ++ answer ∷ []))
      wrote_more out_new wrote = rw (flat_map-append, append-nil) (Appends-trans d.output.before d.output.after out_new (flat_map text_of g.answers) (text_of answer) g.wrote wrote)

      -- if a line feed ended the line and its answer was written, the conversation goes on
      pub goes_on : (in_new out_new : Option (List ℕ)) (in_failed' out_failed' : Bool) → IsOneLine line → Consumes d.input.after in_new (line ++ 10 ∷ []) → Appends d.output.after out_new (text_of answer)
          → in_failed' ≡ false → out_failed' ≡ false → IsGoingOn next (now_at in_new in_failed' out_new out_failed') (n + 1)
      goes_on in_new out_new in_failed' out_failed' is_one took wrote in_works out_works = record {
        in_works = in_works;
        out_works = out_works;
        given = g.given ++ (line ++ 10 ∷ []);
        took = Consumes-trans d.input.before d.input.after in_new g.given (line ++ 10 ∷ []) g.took took;
        whole = whole_more g.given line g.whole is_one;
        counted = rw (line_more g.given line g.whole is_one, length-append, g.counted) refl;
        enough = omega (arith, g.enough, length-append g.given (line ++ 10 ∷ []), length-append line (10 ∷ []));
        answers = g.answers ++ answer ∷ [];
        done = rw (line_more g.given line g.whole is_one) more;
        wrote = wrote_more out_new wrote;
      }

      -- if the end of the source ended the line and its answer was written, the conversation came
      -- to the end
      pub came_to_last : (in_new out_new : Option (List ℕ)) (in_failed' out_failed' : Bool) → IsOneLine line → line ≢ [] → IsAtEnd in_new → Consumes d.input.after in_new (line ++ [])
          → Appends d.output.after out_new (text_of answer) → in_failed' ≡ false → out_failed' ≡ false
          → CameToEnd text_of (DoneBy next) (now_at in_new in_failed' out_new out_failed') (n + 1)
      came_to_last in_new out_new in_failed' out_failed' is_one some ended took wrote in_works out_works = record {
        in_works = in_works;
        out_works = out_works;
        given = g.given ++ (line ++ []);
        took = Consumes-trans d.input.before d.input.after in_new g.given (line ++ []) g.took took;
        ended = ended;
        counted = rw (last_line_more g.given line g.whole is_one some, length-append, g.counted) refl;
        answers = g.answers ++ answer ∷ [];
        done = rw (last_line_more g.given line g.whole is_one some) more;
        wrote = wrote_more out_new wrote;
      }

      -- the sink failed at the answer to the line. A line feed ended the line, or the end of the
      -- source
      pub stopped_at_write : (ending : List ℕ) (in_new out_new : Option (List ℕ)) (in_failed' out_failed' : Bool) → Consumes d.input.after in_new (line ++ ending) → lines_of (g.given ++ (line ++ ending)) ≡ lines_of g.given ++ line ∷ []
          → (ended_lines_of (g.given ++ (line ++ ending)) ≡ lines_of (g.given ++ (line ++ ending))) ⊎ IsAtEnd in_new → TakesBeginning d.output.after out_new (text_of answer) → in_failed' ≡ false → out_failed' ≡ true
          → StoppedAtWrite text_of (DoneBy next) (now_at in_new in_failed' out_new out_failed')
      stopped_at_write ending in_new out_new in_failed' out_failed' took all whole wrote in_works fails = record {
        in_works = in_works;
        out_failed = fails;
        given = g.given ++ (line ++ ending);
        took = Consumes-trans d.input.before d.input.after in_new g.given (line ++ ending) g.took took;
        whole = whole;
        answers = g.answers;
        last = answer;
        done = rw all more;
        part = wrote.part;
        begins = wrote.begins;
        wrote = Appends-trans d.output.before d.output.after out_new (flat_map text_of g.answers) wrote.part g.wrote wrote.took;
      }
