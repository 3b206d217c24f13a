-- Loading a text has one result, unless memory is refused.
use Rattle.rd_trace.proofs.Prelude.{◌≡◌, ◌⊎◌, inl, inr, ℕ, ◌+◌, List, [], ◌∷◌, ◌++◌, map, Option, None, option_map, Result, Ok, Err, refl, sym, ap, ap₂, ◌∙◌, subst, subst₂, arith, World, Refusal, Event, Mark, Trace, IsTraceText, loaded_state, name_bytes_and_events, IsSameBook, first_refused, first_mark_fault, trace_fault, IsBookIn, Replays, LoadsTrace, IsSameAnswer, AnyBook, TraceFault, BadTrace, Flawed, TraceMark, TraceStep, LoadsAgain, BookState, IsTextOf, IsTraceRing, option_or, NoMemory}
use Rattle.rd_trace.proofs.OneTrace.{seen, same_trace, same_book}

-- bookmarks that are seen as the same have the same fault
same_mark_fault : (w : World) (n : ℕ) (ms ns : List Mark) → map name_bytes_and_events ms ≡ map name_bytes_and_events ns → first_mark_fault w n ms ≡ first_mark_fault w n ns
same_mark_fault w n [] [] h = refl
same_mark_fault w n (m ∷ ms) (k ∷ ns) h =
    let both : name_bytes_and_events m ≡ name_bytes_and_events k = cc in
    let later : map name_bytes_and_events ms ≡ map name_bytes_and_events ns = cc in
    ap₂ (λ (es : List Event) (o : Option TraceFault). option_or (option_map (λ (r : ℕ × Refusal). TraceMark (n + 1) r.0 r.1) (first_refused w [] es)) o) (ap (λ (s : List ℕ × List Event). s.1) both) (same_mark_fault w (n + 1) ms ns later)
same_mark_fault w n _ _ h = absurd (cc)

-- two traces that are seen as the same have the same fault and the same result
module _ (R Q : ℕ) (t : Trace R) (u : Trace Q) (same : seen t ≡ seen u) where
  same_fault : trace_fault t ≡ trace_fault u
  same_fault =
      let alike = same_mark_fault (seen u).world 0 t.marks u.marks (λ i. (same i).marks) in
      ap₂ (λ (o p : Option TraceFault). option_or o p) (λ i. option_map Flawed (same i).flaw)
      (ap₂ (λ (o p : Option TraceFault). option_or o p) ((λ i. first_mark_fault (same i).world 0 t.marks) ∙ alike)
      (λ i. option_map (λ (r : ℕ × Refusal). TraceStep r.0 r.1) (first_refused (same i).world [] ((same i).live ++ (same i).undone))))

  same_answer : (r q : Result AnyBook TraceFault) → (r ≡ Err NoMemory → ⊥) → (q ≡ Err NoMemory → ⊥) → Replays (IsBookIn (loaded_state t)) t r
      → Replays (IsBookIn (loaded_state u)) u q → IsSameAnswer r q
  same_answer (Ok a) (Ok b) some also h k = subst₂ IsSameBook (sym h.1) (sym k.1) (same_book R Q t u same)
  same_answer _ _ some also h k = let alike = same_fault in grind arith

  -- a trace without a fault, loaded again as a trace that is seen as the same, gives its book again
  replays_again : trace_fault t ≡ None → (q : Result AnyBook TraceFault) → Replays (IsBookIn (loaded_state u)) u q → LoadsAgain (loaded_state t) q
  replays_again plays (Ok b) k = subst (λ x. IsSameBook x (loaded_state t)) (sym k.1) (same_book Q R u t (sym same))
  replays_again plays (Err f) k = let alike = same_fault in grind arith

-- the result of loading a text, case by case: memory was refused; the text is no trace, and the
-- result is `BadTrace`; or it is a trace, and the result is the result of replaying it
abbrev LoadCases : List ℕ → Result AnyBook TraceFault → Type 0
LoadCases text r =
    (r ≡ Err NoMemory)
    ⊎ (((r ≡ Err BadTrace) × ((R : ℕ) (t : Trace R) → IsTraceText text t → ⊥))
    ⊎ ((R : ℕ) × (t : Trace R) × IsTraceText text t × Replays (IsBookIn (loaded_state t)) t r))

load_cases : (text : List ℕ) (r : Result AnyBook TraceFault) → LoadsTrace text r → LoadCases text r
load_cases text r h = grind arith

module _ (text : List ℕ) (r q : Result AnyBook TraceFault) (some : r ≡ Err NoMemory → ⊥) (also : q ≡ Err NoMemory → ⊥) where
  cases_same_answer : LoadCases text r → LoadCases text q → IsSameAnswer r q
  cases_same_answer (inl memory) k = absurd (some memory)
  cases_same_answer (inr h) (inl memory) = absurd (also memory)
  cases_same_answer (inr (inl h)) (inr (inl k)) = subst₂ IsSameAnswer (sym h.0) (sym k.0) refl
  cases_same_answer (inr (inl h)) (inr (inr (Q, u, is_u, k))) = absurd (h.1 Q u is_u)
  cases_same_answer (inr (inr (R, t, is_t, h))) (inr (inl k)) = absurd (k.1 R t is_t)
  cases_same_answer (inr (inr (R, t, is_t, h))) (inr (inr (Q, u, is_u, k))) = same_answer R Q t u (same_trace text R Q t u is_t is_u).1 r q some also h k

pub one_answer : (text : List ℕ) (r q : Result AnyBook TraceFault) → LoadsTrace text r → LoadsTrace text q → (r ≡ Err NoMemory → ⊥) → (q ≡ Err NoMemory → ⊥) → IsSameAnswer r q
one_answer text r q h k some also = cases_same_answer text r q some also (load_cases text r h) (load_cases text q k)

-- loading a text that is a trace without a fault gives the trace's book, or `NoMemory`
loads_as : (text : List ℕ) (R : ℕ) (t : Trace R) → IsTraceText text t → trace_fault t ≡ None → (r : Result AnyBook TraceFault) → LoadCases text r → LoadsAgain (loaded_state t) r
loads_as text R t is_t plays r (inl memory) = subst (LoadsAgain (loaded_state t)) (sym memory) refl
loads_as text R t is_t plays r (inr (inl h)) = absurd (h.1 R t is_t)
loads_as text R t is_t plays r (inr (inr (Q, u, is_u, k))) = replays_again R Q t u (same_trace text R Q t u is_t is_u).1 plays r k

-- loading a text as which a book was written gives this book, or `NoMemory`
pub loads_again : (text : List ℕ) (r : Result AnyBook TraceFault) → LoadsTrace text r → (b : BookState) → IsTraceRing b.session.start.ring → IsTextOf b text → LoadsAgain b r
loads_again text r loads b ring is =
    let h = is.loads ring in subst (λ s. LoadsAgain s r) h.3 (loads_as text b.session.start.ring h.0 h.1 h.2 r (load_cases text r loads))
