-- Viewers that are there at once: what they asked, and how the history that leaves the desk agrees
-- with their replies.
use Rattle.rd_view.proofs.Prelude.{zip, arith, map-append, ◌≡◌, ◌∙◌, ℕ, suc, inl, inr, List, [], ◌∷◌, ◌++◌, Ok, Err, Result, map, length, refl, ap, sym, subst, append_assoc, append-nil, AllByRecursion, AllZip, AnswersLine, AnswersSaid, AreAnswered, AreLiveEnds, AskedLive, Book, BookWithHistory, Call, CameOf, Command, Conversed, Continues, Desk, Ghosts, History, IsChain, IsLastCall, IsLiveEnd, IsNewViewer, IsTaskEnd, IsViewerOf, KnowsAfterAsk, NumberedAnswer, NumberedLine, ParsedLine, Pass, RunsLive, Says, ScriptFault, SeesAfter, SinkOf, SourceOf, commands_of, entries, number, numbered_calls, numbered_lines, numbers_from, opened_state, own_answered, own_refused, own_same, pass_of, put_by, seen, viewer_end, viewer_entry, without_number}
use Rattle.rd_script.proofs.ConversationLemmas.{Converses-weaker, some_answered}
use Rattle.std.specs.Result.{IfOk}
use Rattle.rd_text.specs.Calls.{numbered_text}
use Rattle.rd_script.specs.Conversation.{Converses}
use Rattle.rd_devices.specs.Streams.{devices}
use Rattle.rd_view.proofs.ViewingLemmas.{was_answered}

-- one more element has P
pub each_more : {A : Type 0} (P : A → Type 0) (xs : List A) (x : A) → AllByRecursion P xs → P x → AllByRecursion P (xs ++ x ∷ [])
each_more P [] x each is = (is, tt)
each_more P (y ∷ ys) x each is = (each.0, each_more P ys x each.1 is)

-- lists that f and g make equal stay so with one more element each
pub both_more : {A B C : Type 0} (f : A → C) (g : B → C) (xs : List A) (x : A) (ys : List B) (y : B) → map f xs ≡ map g ys → f x ≡ g y → map f (xs ++ x ∷ []) ≡ map g (ys ++ y ∷ [])
both_more f g xs x ys y same is = rw (map-append, map-append) (λ i. same i ++ is i ∷ [])

-- equally long lists are zipped whole
pub zip_firsts : {A B : Type 0} (xs : List A) (ys : List B) → length xs ≡ length ys → map (λ pair. pair.0) (zip xs ys) ≡ xs
zip_firsts [] [] same = refl
zip_firsts (x ∷ xs) (y ∷ ys) same = ap (λ zs. x ∷ zs) (zip_firsts xs ys (omega (arith, same)))
zip_firsts [] (y ∷ ys) same = absurd (omega (arith, same))
zip_firsts (x ∷ xs) [] same = absurd (omega (arith, same))

pub zip_seconds : {A B : Type 0} (xs : List A) (ys : List B) → length xs ≡ length ys → map (λ pair. pair.1) (zip xs ys) ≡ ys
zip_seconds [] [] same = refl
zip_seconds (x ∷ xs) (y ∷ ys) same = ap (λ zs. y ∷ zs) (zip_seconds xs ys (omega (arith, same)))
zip_seconds [] (y ∷ ys) same = absurd (omega (arith, same))
zip_seconds (x ∷ xs) [] same = absurd (omega (arith, same))

-- what has a desk and a pass answers lines one after another; then so does the pass at that desk
module _ {S D P A : Type 0} (desk_of : S → D) (pass : S → P) (R : D → P → List ℕ → A → P → Type 0) where
  abbrev pub KeepsDesk : S → List ℕ → A → S → Type 0
  KeepsDesk old line answer new = (desk_of new ≡ desk_of old) × R (desk_of old) (pass old) line answer (pass new)

  pub passes_answered : (first last : S) (lines : List (List ℕ)) (answers : List A) → AreAnswered KeepsDesk first lines answers last → AreAnswered (R (desk_of first)) (pass first) lines answers (pass last)
  passes_answered first last [] [] h = ap pass h
  passes_answered first last (line ∷ lines) (answer ∷ answers) h =
      (pass h.0, h.1.1, subst (λ d. AreAnswered (R d) (pass h.0) lines answers (pass last)) h.1.0 (passes_answered h.0 last lines answers h.2))
  passes_answered first last _ _ h = absurd h

  pub same_desk : (first last : S) (lines : List (List ℕ)) (answers : List A) → AreAnswered KeepsDesk first lines answers last → desk_of last ≡ desk_of first
  same_desk first last [] [] h = ap desk_of h
  same_desk first last (line ∷ lines) (answer ∷ answers) h = same_desk h.0 last lines answers h.2 ∙ h.1.0
  same_desk first last _ _ h = absurd h

module _ (N : ℕ) (K : Ghosts (BookWithHistory N) Call (Book N)) (desk : Desk N) where
  abbrev DeskPass : Type 0
  DeskPass = Pass (BookWithHistory N) Call (Book N) K

  -- what the desk tells of a call with a number
  abbrev Tells : DeskPass → Command → NumberedAnswer → DeskPass → Type 0
  Tells old command given new = KnowsAfterAsk (opened_state desk) old new command (without_number given) × IfOk given (IsLastCall (seen new) (number old) command)

  -- the commands were asked one after another, with one answer each
  abbrev IsNumberedChain : DeskPass → List Command → List NumberedAnswer → DeskPass → Type 0
  IsNumberedChain first [] [] last = last ≡ first
  IsNumberedChain first [] (answer ∷ given) last = ⊥
  IsNumberedChain first (c ∷ cs) [] last = ⊥
  IsNumberedChain first (c ∷ cs) (answer ∷ given) last = (next : DeskPass) × Tells first c answer next × IsNumberedChain next cs given last

  unnumbered : (cs : List Command) (given : List NumberedAnswer) (first last : DeskPass) → IsNumberedChain first cs given last
      → IsChain (λ pass command answer after. KnowsAfterAsk (opened_state desk) pass after command answer) first cs (map without_number given) last
  unnumbered [] [] first last h = h
  unnumbered (c ∷ cs) (answer ∷ given) first last h = (h.0, h.1.0, unnumbered cs given h.0 last h.2)
  unnumbered _ _ first last h = absurd h

  -- the pass keeps its number, and its own calls grow by those that the answers have numbers of
  numbered_grow : (n : ℕ) (cs : List Command) (given : List NumberedAnswer) (first last : DeskPass) → number first ≡ n → IsNumberedChain first cs given last
      → (number last ≡ n) × (put_by n 1 (seen last) ≡ put_by n 1 (seen first) ++ numbered_calls cs given)
  numbered_grow n [] [] first last is h = (ap number h ∙ is, ap (λ (p : DeskPass). put_by n 1 (seen p)) h ∙ sym (append-nil _))
  numbered_grow n (c ∷ cs) (Ok call ∷ given) first last is h =
      let knows = h.1.0.outcome in
      let more = numbered_grow n cs given h.0 last (knows.same_number ∙ is) h.2 in
      let sees = subst (λ k. SeesAfter (opened_state desk) k (seen first) c (Ok call.1) (seen h.0)) is knows.has_seen in
      let grown = own_answered (opened_state desk) n (seen first) (seen h.0) c call.1 sees in
      let here = ap (λ (k : ℕ). put_by n 1 (seen first) ++ (k, (viewer_entry n c call.1).1) ∷ []) (sym h.1.1.0) in
      (more.0, more.1 ∙ ap (λ xs. xs ++ numbered_calls cs given) (grown ∙ here) ∙ append_assoc (put_by n 1 (seen first)) ((call.0, (viewer_entry n c call.1).1) ∷ []) (numbered_calls cs given))
  numbered_grow n (c ∷ cs) (Err refusal ∷ given) first last is h =
      let knows = h.1.0.outcome in
      let more = numbered_grow n cs given h.0 last (knows.same_number ∙ is) h.2 in
      let sees = subst (λ k. SeesAfter (opened_state desk) k (seen first) c (Err refusal) (seen h.0)) is knows.has_seen in
      (more.0, more.1 ∙ ap (λ xs. xs ++ numbered_calls cs given) (own_refused (opened_state desk) n (seen first) (seen h.0) c refusal sees))
  numbered_grow n _ _ first last is h = absurd h

  -- lines that a pass answered say commands that were asked
  pub record Heard (first : DeskPass) (lines : List (List ℕ)) (answers : List NumberedLine) (last : DeskPass) : Type 0 where
    pub said : List ParsedLine
    pub says : AllZip Says lines said
    pub given : List NumberedAnswer
    pub each : answers ≡ numbered_lines said given
    pub chain : IsNumberedChain first (commands_of said) given last

  one_more_heard : (first next last : DeskPass) (line : List ℕ) (lines : List (List ℕ)) (answer : NumberedLine) (answers : List NumberedLine) (x : ParsedLine)
      → Says line x → AnswersSaid (opened_state desk) first x answer next → Heard next lines answers last → Heard first (line ∷ lines) (answer ∷ answers) last
  one_more_heard first next last line lines answer answers (Err fault) says is h = record {
    said = Err fault ∷ h.said;
    says = (says, h.says);
    given = h.given;
    each = λ i. is.0 i ∷ h.each i;
    chain = subst (λ p. IsNumberedChain p (commands_of h.said) h.given last) is.1 h.chain;
  }
  one_more_heard first next last line lines answer answers (Ok command) says is h = record {
    said = Ok command ∷ h.said;
    says = (says, h.says);
    given = is.0 ∷ h.given;
    each = λ i. is.1 i ∷ h.each i;
    chain = (next, (is.2, is.3), h.chain);
  }

  all_heard : (lines : List (List ℕ)) (answers : List NumberedLine) (first last : DeskPass) → AreAnswered (AnswersLine (opened_state desk)) first lines answers last → Heard first lines answers last
  all_heard [] [] first last h = record { said = []; says = tt; given = []; each = refl; chain = h }
  all_heard (line ∷ lines) (answer ∷ answers) first last h = one_more_heard first h.0 last line lines answer answers h.1.0 h.1.1 h.1.2 (all_heard lines answers h.0 last h.2)
  all_heard _ _ first last h = absurd h

  -- lines that a new viewer answered were answered as `AskedLive` says
  asked_live : (history : History) (n : ℕ) (first last : DeskPass) (lines : List (List ℕ)) (answers : List NumberedLine) → IsNewViewer desk first → number first ≡ n
      → Continues (number last) (seen last) (entries history) → AreAnswered (AnswersLine (opened_state desk)) first lines answers last
      → AskedLive (opened_state desk) (entries history) n lines answers
  asked_live history n first last lines answers new is on h =
      let heard = all_heard lines answers first last h in
      let cs = commands_of heard.said in
      let grown = numbered_grow n cs heard.given first last is heard.chain in
      let continues = subst (λ k. Continues k (seen last) (entries history)) grown.0 on in
      record {
        said = heard.said;
        says = heard.says;
        given = heard.given;
        asked = was_answered N K desk history n first last cs (map without_number heard.given) new is (unnumbered cs heard.given first last heard.chain) on;
        each = heard.each;
        calls = own_same n (seen last) (entries history) continues ∙ subst (λ xs. put_by n 1 (seen last) ≡ put_by n 1 xs ++ numbered_calls cs heard.given) new.has_seen grown.1;
      }

  -- new viewers can be run
  pub can_run : {L : Type 0} (tasks : List L) (desk_of : L → Desk N) (pass : L → DeskPass) → AllByRecursion (λ task. desk_of task ≡ desk) tasks → AllByRecursion (IsNewViewer desk) (map pass tasks) → AllByRecursion (λ task. IsViewerOf (desk_of task) (pass task)) tasks
  can_run [] desk_of pass same new = tt
  can_run (task ∷ tasks) desk_of pass same new = (subst (λ d. IsViewerOf d (pass task)) (sym same.0) (new.0.is_pass, new.0.is_out), can_run tasks desk_of pass same.1 new.1)

  module _ {T R W : Type 0} (opens : T → R → W → Type 0) (source : SourceOf R) (sink : SinkOf W) where
    -- what is weaker of the lines is weaker of the viewer
    weaker : (P Q : List (List ℕ) → List NumberedLine → Type 0) → ((lines : List (List ℕ)) (answers : List NumberedLine) → P lines answers → Q lines answers)
        → (terminal : T) (r : Result ℕ ScriptFault) → Conversed opens source sink P terminal r → Conversed opens source sink Q terminal r
    weaker P Q f terminal r c = record {
      reader = c.reader;
      reader' = c.reader';
      writer = c.writer;
      writer' = c.writer';
      opened = c.opened;
      converses = Converses-weaker (λ answer. numbered_text answer.0 answer.1) P Q f (devices source sink c.reader c.reader' c.writer c.writer') r c.converses;
    }

    -- a conversation that had this result is what came of the viewer
    pub came : (NoCall : Type 0) (Done : List (List ℕ) → List NumberedLine → Type 0) (terminal : T) (r : Result ℕ ScriptFault) → Conversed opens source sink Done terminal r → CameOf opens source sink NoCall Done terminal r
    came NoCall Done terminal (Ok lines) c = c
    came NoCall Done terminal (Err fault) c = inr c

    -- so ended a new viewer with this pass, if that came of it
    ended : (history : History) (n : ℕ) (first last : DeskPass) (terminal : T) (r : Result ℕ ScriptFault) → IsNewViewer desk first → number first ≡ n → Continues (number last) (seen last) (entries history)
        → CameOf opens source sink (last ≡ first) (λ lines answers. AreAnswered (AnswersLine (opened_state desk)) first lines answers last) terminal r
        → CameOf opens source sink (put_by n 1 (entries history) ≡ []) (AskedLive (opened_state desk) (entries history) n) terminal r
    ended history n first last terminal (Ok lines) new is on c = weaker _ _ (λ ls answers. asked_live history n first last ls answers new is on) terminal (Ok lines) c
    ended history n first last terminal (Err fault) new is on (inl same) = inl (own_same n [] (entries history) (rw (same, is, new.has_seen) at on))
    ended history n first last terminal (Err fault) new is on (inr c) = inr (weaker _ _ (λ ls answers. asked_live history n first last ls answers new is on) terminal (Err fault) c)

    -- a conversation that a pass of the desk had is what came of its viewer
    pub live_done : {S D : Type 0} (last first : S) (desk_of : S → D) (at_desk : D → Desk N) (pass : S → DeskPass) (terminal : T) (reader reader' : R) (writer writer' : W) (r : Result ℕ ScriptFault)
        → opens terminal reader writer → IsViewerOf (at_desk (desk_of last)) (pass last)
        → Converses (λ (answer : NumberedLine). numbered_text answer.0 answer.1) (λ lines answers. AreAnswered (KeepsDesk desk_of pass (λ d. AnswersLine (opened_state (at_desk d)))) first lines answers last) (devices source sink reader reader' writer writer') r
        → RunsLive opens source sink (at_desk (desk_of first)) (pass first) terminal (pass last, r)
    live_done {D = D} last first desk_of at_desk pass terminal reader reader' writer writer' r opened own h =
        let R' : D → DeskPass → List ℕ → NumberedLine → DeskPass → Type 0 = λ d. AnswersLine (opened_state (at_desk d)) in
        let text : NumberedLine → List ℕ = λ answer. numbered_text answer.0 answer.1 in
        let some = some_answered text (λ lines answers. AreAnswered (KeepsDesk desk_of pass R') first lines answers last) (devices source sink reader reader' writer writer') r h in
        let same = same_desk desk_of pass R' first last some.0 some.1 some.2 in (
          subst (λ d. IsViewerOf (at_desk d) (pass last)) same own,
          came _ _ terminal r
              (record {
                reader = reader;
                reader' = reader';
                writer = writer;
                writer' = writer';
                opened = opened;
                converses =
                    Converses-weaker text (λ lines answers. AreAnswered (KeepsDesk desk_of pass R') first lines answers last) (λ lines answers. AreAnswered (R' (desk_of first)) (pass first) lines answers (pass last))
                    (λ lines answers is. passes_answered desk_of pass R' first last lines answers is) (devices source sink reader reader' writer writer') r h;
              }),
        )

    -- what each of these tasks gives back, of which these are the desk, the pass and the terminal
    abbrev pub Runs : {L : Type 0} (desk_of : L → Desk N) (pass : L → DeskPass) (terminal : L → T) → L → DeskPass × Result ℕ ScriptFault → Type 0
    Runs desk_of pass terminal task done = RunsLive opens source sink (desk_of task) (pass task) (terminal task) done

    -- the passes that come back are the desk's
    pub own_live : {L : Type 0} (tasks : List L) (desk_of : L → Desk N) (pass : L → DeskPass) (terminal : L → T) (dones : List (Result (DeskPass × Result ℕ ScriptFault) L))
        → AllByRecursion (λ task. desk_of task ≡ desk) tasks → AllByRecursion (IsNewViewer desk) (map pass tasks)
        → AllZip (IsTaskEnd (Runs desk_of pass terminal)) tasks dones → AllByRecursion (IsViewerOf desk) (map (pass_of pass) dones)
    own_live [] desk_of pass terminal [] same new pairs = tt
    own_live (task ∷ tasks) desk_of pass terminal (Ok done ∷ dones) same new pairs = (subst (λ d. IsViewerOf d done.0) same.0 pairs.0.0, own_live tasks desk_of pass terminal dones same.1 new.1 pairs.1)
    own_live (task ∷ tasks) desk_of pass terminal (Err back ∷ dones) same new pairs = (rw pairs.0 (new.0.is_pass, new.0.is_out), own_live tasks desk_of pass terminal dones same.1 new.1 pairs.1)
    own_live _ desk_of pass terminal _ same new pairs = absurd pairs

    one_ended : (L : Type 0) (history : History) (n : ℕ) (d : Desk N) (first last : DeskPass) (terminal : T) (r : Result ℕ ScriptFault) → d ≡ desk → IsNewViewer desk first → number first ≡ n
        → Continues (number last) (seen last) (entries history) → RunsLive opens source sink d first terminal (last, r) → IsLiveEnd opens source sink (opened_state desk) (entries history) n terminal (viewer_end {L = L} (Ok (last, r)))
    one_ended L history n d first last terminal (Ok lines) same new is on runs =
        ended history n first last terminal (Ok lines) new is on (subst (λ x. CameOf opens source sink (last ≡ first) (λ ls answers. AreAnswered (AnswersLine (opened_state x)) first ls answers last) terminal (Ok lines)) same runs.1)
    one_ended L history n d first last terminal (Err fault) same new is on runs =
        ended history n first last terminal (Err fault) new is on (subst (λ x. CameOf opens source sink (last ≡ first) (λ ls answers. AreAnswered (AnswersLine (opened_state x)) first ls answers last) terminal (Err fault)) same runs.1)

    -- all viewers from this number on ended as `AreLiveEnds` says
    pub all_ended_live : {L : Type 0} (history : History) (n : ℕ) (tasks : List L) (desk_of : L → Desk N) (pass : L → DeskPass) (terminal : L → T) (dones : List (Result (DeskPass × Result ℕ ScriptFault) L))
        → AllByRecursion (λ task. desk_of task ≡ desk) tasks → AllByRecursion (IsNewViewer desk) (map pass tasks) → map number (map pass tasks) ≡ numbers_from n (length tasks)
        → AllByRecursion (λ p. Continues (number p) (seen p) (entries history)) (map (pass_of pass) dones) → AllZip (IsTaskEnd (Runs desk_of pass terminal)) tasks dones
        → AreLiveEnds opens source sink (opened_state desk) (entries history) n (map terminal tasks) (map viewer_end dones)
    all_ended_live history n [] desk_of pass terminal [] same new are on pairs = tt
    all_ended_live {L = L} history n (task ∷ tasks) desk_of pass terminal (Ok (last, r) ∷ dones) same new are on pairs = (
      let first : number (pass task) ≡ n = cc in one_ended L history n (desk_of task) (pass task) last (terminal task) r same.0 new.0 first on.0 pairs.0,
      all_ended_live history (suc n) tasks desk_of pass terminal dones same.1 new.1 (cc) on.1 pairs.1,
    )
    all_ended_live history n (task ∷ tasks) desk_of pass terminal (Err back ∷ dones) same new are on pairs = (
      let first : number (pass task) ≡ n = cc in own_same n [] (entries history) (rw (pairs.0, first, new.0.has_seen) at on.0),
      all_ended_live history (suc n) tasks desk_of pass terminal dones same.1 new.1 (cc) on.1 pairs.1,
    )
    all_ended_live history n _ desk_of pass terminal _ same new are on pairs = absurd pairs
