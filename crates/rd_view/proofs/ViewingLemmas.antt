-- What passes know after a chain of calls, and how the history that leaves the desk agrees with it.
use Rattle.rd_view.proofs.Prelude.{◌≡◌, ◌∙◌, ◌^◌, ℕ, suc, List, [], ◌∷◌, ◌++◌, Ok, Err, IfErr, Option, Some, None, Vec, map, length, refl, ap, subst, append_assoc, AllByRecursion, AllZip, Answer, AreAllAnswered, Book, BookState, BookWithHistory, Call, Command, Continues, Desk, Ghosts, Global, History, IsChain, IsNewViewer, IsRefusalOfAsk, IsDone, SeesAfter, IsViewerOf, KnowsAfterAsk, KnowsWords, ParsedLine, Pass, TicketsStayEnded, TicketsEnded, AskedAll, append-nil, recorded_calls, commands_of, entries, map-append, put_by, next_seen, number, numbers_from, opened_state, own_answered, own_refused, own_same, seen}

module _ (opened : BookState) where
  -- after a chain of calls, the viewer's own calls have grown by those that were recorded
  chain_adds_calls : (viewer : ℕ) (commands : List Command) (answers : List Answer) (old new : List (ℕ × Call)) → IsChain (SeesAfter opened viewer) old commands answers new
      → map (λ e. e.1) (put_by viewer 1 new) ≡ map (λ e. e.1) (put_by viewer 1 old) ++ recorded_calls commands answers
  chain_adds_calls viewer [] [] old new is = rw (is, append-nil) refl
  chain_adds_calls viewer (c ∷ commands) (Ok answer ∷ answers) old new is =
      rw (chain_adds_calls viewer commands answers is.0 new is.2, own_answered opened viewer old is.0 c answer is.1, map-append, append_assoc) refl
  chain_adds_calls viewer (c ∷ commands) (Err refusal ∷ answers) old new is = rw (chain_adds_calls viewer commands answers is.0 new is.2, own_refused opened viewer old is.0 c refusal is.1) refl
  chain_adds_calls viewer _ _ old new is = absurd is

module _ (R : ℕ) (K : Ghosts (BookWithHistory R) Call (Book R)) (desk : Desk R) where
  abbrev ViewPass : Type 0
  ViewPass = Pass (BookWithHistory R) Call (Book R) K

  -- what the desk's gate tells
  abbrev told : ViewPass → Command → Answer → ViewPass → Type 0
  told pass command answer after = KnowsAfterAsk (opened_state desk) pass after command answer

  -- a viewer that has seen all tickets drawn gets the answer `TicketsEnded` to each command
  all_ended : (commands : List Command) (answers : List Answer) (p q : ViewPass) → next_seen p ≡ 2 ^ 63 → IsChain told p commands answers q → AllByRecursion (λ answer. answer ≡ Err TicketsEnded) answers
  all_ended [] [] p q at chain = tt
  all_ended (c ∷ commands) (answer ∷ answers) p q at chain = let now = chain.1.ended at in (now, all_ended commands answers chain.0 q (subst (KnowsWords chain.0) now chain.1.outcome.words) chain.2)
  all_ended _ _ p q at chain = absurd chain

  -- after a chain of calls the pass has its number, and the histories that it has seen are a chain;
  -- no answer is `Busy`, and after `TicketsEnded` there is no other answer
  knows_after_chain : (viewer : ℕ) (commands : List Command) (answers : List Answer) (p q : ViewPass) → number p ≡ viewer → IsChain told p commands answers q
      → (number q ≡ viewer) × IsChain (SeesAfter (opened_state desk) viewer) (seen p) commands answers (seen q) × AllByRecursion (λ answer. IfErr answer IsRefusalOfAsk) answers × TicketsStayEnded answers
  knows_after_chain viewer [] [] p q is chain = (ap number chain ∙ is, ap seen chain, tt, tt)
  knows_after_chain viewer (c ∷ commands) (answer ∷ answers) p q is chain = let now = chain.1 in let more = knows_after_chain viewer commands answers chain.0 q (now.outcome.same_number ∙ is) chain.2 in (
    more.0,
    (seen chain.0, subst (λ n. SeesAfter (opened_state desk) n (seen p) c answer (seen chain.0)) is now.outcome.has_seen, more.1),
    (now.never_busy, more.2),
    ((λ ended. all_ended commands answers chain.0 q (subst (KnowsWords chain.0) ended now.outcome.words) chain.2), more.3),
  )
  knows_after_chain viewer _ _ p q is chain = absurd chain

  -- what a viewer gives back: its pass, and its answers if its thread was started
  abbrev Done : Type 0
  Done = ViewPass × Option (Vec Answer Global)

  abbrev Gives : ViewPass × Vec Command Global → Done → Type 0
  Gives viewer done = IsDone (IsViewerOf desk) told viewer.0 viewer.1.items done

  -- the passes that come back are the desk's
  pub own_passes : (work : List (ViewPass × Vec Command Global)) (dones : List Done) → AllZip Gives work dones → AllByRecursion (IsViewerOf desk) (map (λ done. done.0) dones)
  own_passes [] [] pairs = tt
  own_passes (viewer ∷ work) ((pass, Some answers) ∷ dones) pairs = (pairs.0.0, own_passes work dones pairs.1)
  own_passes (viewer ∷ work) ((pass, None) ∷ dones) pairs = (pairs.0.0, own_passes work dones pairs.1)
  own_passes _ _ pairs = absurd pairs

  -- the passes of new viewers are passes of this desk
  pub new_are_viewers : (work : List (ViewPass × Vec Command Global)) → AllByRecursion (IsNewViewer desk) (map (λ viewer. viewer.0) work) → AllByRecursion (λ viewer. IsViewerOf desk viewer.0) work
  new_are_viewers [] new = tt
  new_are_viewers (viewer ∷ work) new = ((new.0.is_pass, new.0.is_out), new_are_viewers work new.1)

  -- a new viewer whose pass went through a chain of calls was answered as `AskedAll` says
  pub was_answered : (history : History) (n : ℕ) (first last : ViewPass) (commands : List Command) (answers : List Answer)
      → IsNewViewer desk first → number first ≡ n → IsChain told first commands answers last → Continues (number last) (seen last) (entries history)
      → AskedAll (opened_state desk) (entries history) n commands answers
  was_answered history n first last commands answers new is chain on =
      let all = knows_after_chain n commands answers first last is chain in
      let histories = rw new.has_seen at all.1 in
      let continues = rw all.0 at on in
      record {
        seen = seen last;
        chain = histories;
        continues = continues;
        calls = ap (map (λ e. e.1)) (own_same n (seen last) (entries history) continues) ∙ chain_adds_calls (opened_state desk) n commands answers [] (seen last) histories;
        never_busy = all.2;
        ended = all.3;
      }

  -- all viewers from this number on were answered as `AreAllAnswered` says
  pub all_answered : (history : History) (n : ℕ) (work : List (ViewPass × Vec Command Global)) (dones : List Done) (said : List (Vec ParsedLine Global))
      → AllZip Gives work dones → AllByRecursion (IsNewViewer desk) (map (λ viewer. viewer.0) work) → map number (map (λ viewer. viewer.0) work) ≡ numbers_from n (length said)
      → map (λ viewer. viewer.1.items) work ≡ map (λ lines. commands_of lines.items) said → AllByRecursion (λ pass. Continues (number pass) (seen pass) (entries history)) (map (λ done. done.0) dones)
      → AreAllAnswered (opened_state desk) (entries history) n said (map (λ done. done.1) dones)
  all_answered history n [] [] [] pairs new is read knows = tt
  all_answered history n [] [] (lines ∷ said) pairs new is read knows = cc
  all_answered history n (viewer ∷ work) (done ∷ dones) [] pairs new is read knows = cc
  all_answered history n (viewer ∷ work) ((pass, Some answers) ∷ dones) (lines ∷ said) pairs new is read knows =
      let same : commands_of lines.items ≡ viewer.1.items = cc in
      (rw same (was_answered history n viewer.0 pass viewer.1.items answers.items new.0 (cc) pairs.0.1 knows.0), all_answered history (suc n) work dones said pairs.1 new.1 (cc) (cc) knows.1)
  all_answered history n (viewer ∷ work) ((pass, None) ∷ dones) (lines ∷ said) pairs new is read knows =
      (let first : number viewer.0 ≡ n = cc in own_same n [] (entries history) (rw (pairs.0.1, first, new.0.has_seen) at knows.0), all_answered history (suc n) work dones said pairs.1 new.1 (cc) (cc) knows.1)
  all_answered history n _ _ said pairs new is read knows = absurd pairs
