-- The result of loading a text.
use Rattle.rd_trace.proofs.Prelude.{IsErrAnd, ◌≡◌, ◌≤◌, ◌<◌, ◌+◌, ℕ, List, [], ◌∷◌, length, codes, Some, none-some, Result, Ok, Err, sym, ap, ◌∙◌, subst, arith, IsDistinct, Data, World, Mark, book_state, loaded_state, first_mark_fault, Replays, MOST_MARKS, HaveDifferentNames, TraceFault, BadTrace, number_at, Trace, IsEitherVersion, AnyBook, any_state, IsTraceText, IsTraceRing, LoadsValue, LoadsTrace, Book, NoMemory}
use Rattle.std.specs.Prelude.{IsOkAnd, IsUtf8, MatchResult}
use Rattle.serde_json.specs.Read.{read}
use Rattle.rd_trace.proofs.SpellLemmas.{passed_up}
use Rattle.serde_json.proofs.OnLiterals.{serde_json_on_literals}

-- a text is JSON in UTF-8, and its value is this one
abbrev pub HasValue : List ℕ → Data → Type 0
HasValue text d = IsUtf8 text × (read text ≡ Some d)

-- What holds of a session that a value spells

pub names_differ : {R : ℕ} (d : Data) (t : Trace R) → IsEitherVersion d t → HaveDifferentNames t.marks
unfolding IsDistinct
names_differ d t h = grind arith

pub few_marks : {R : ℕ} (d : Data) (t : Trace R) → IsEitherVersion d t → length t.marks ≤ MOST_MARKS
few_marks d t h = grind arith

pub ring_of : {R : ℕ} (d : Data) (t : Trace R) → IsEitherVersion d t → number_at (codes "ring") d ≡ Some R
ring_of d t h = grind arith

pub value_is_trace : {R : ℕ} (text : List ℕ) (d : Data) (t : Trace R) → HasValue text d → IsTraceText text t → IsEitherVersion d t
value_is_trace text d t value is = grind arith

-- the empty text has no value
text_not_empty : (text : List ℕ) (d : Data) → HasValue text d → 0 < length text
unfolding serde_json_on_literals
text_not_empty [] d value = absurd (none-some d value.1)
text_not_empty (x ∷ xs) d value = omega arith

module _ (text : List ℕ) (d : Data) (value : HasValue text d) (Q : ℕ) (ring : number_at (codes "ring") d ≡ Some Q) (is_ring : IsTraceRing Q) where
  -- a value that spells no session over rings of its size spells none over rings of any size
  no_trace : ((t : Trace Q) → IsEitherVersion d t → ⊥) → LoadsTrace text (Err BadTrace)
  no_trace none = λ R t is.
      let its = value_is_trace text d t value is in
      let same : Q ≡ R = cc (ring, ring_of d t its) in
      subst (λ (n : ℕ). (u : Trace n) → IsEitherVersion d u → ⊥) same none t its

  is_text : (t : Trace Q) → IsEitherVersion d t → IsTraceText text t
  is_text t is = (value.0, d, value.1, (is_ring, is))

  -- a fault of loading the value is one of loading the text: memory may be refused, since the text
  -- isn't empty
  pub loads_fault : (fault : TraceFault) → LoadsValue {R = Q} d (Err fault) → LoadsTrace text (Err fault)
  loads_fault NoMemory h = text_not_empty text d value
  loads_fault BadTrace h = no_trace h
  loads_fault _ h = (Q, h.0, is_text h.0 h.1, h.2)

  -- the result over rings of this size is the result of loading, with its book as an `AnyBook`
  pub loads_any : (wrap : Book Q → AnyBook) → ((book : Book Q) → any_state (wrap book) ≡ book_state book) → (r : Result (Book Q) TraceFault) (s : Result AnyBook TraceFault)
      → LoadsValue {R = Q} d r → MatchResult r (λ book. IsOkAnd s (λ any. any ≡ wrap book)) (λ e. s ≡ Err e) → LoadsTrace text s
  loads_any wrap same (Ok book) (Ok any) h is = (Q, h.0, is_text h.0 h.1, (h.2.0, ap any_state is ∙ same book ∙ h.2.1))
  loads_any wrap same (Ok book) (Err e) h is = absurd is
  loads_any wrap same (Err fault) s h is = subst (λ (x : Result AnyBook TraceFault). LoadsTrace text x) (sym is) (loads_fault fault h)

-- The result of loading a value

marks_not_bad : (w : World) (n : ℕ) (ms : List Mark) → first_mark_fault w n ms ≡ Some BadTrace → ⊥
marks_not_bad w n [] h = cc
marks_not_bad w n (m ∷ ms) h = grind (arith, marks_not_bad w (n + 1) ms)

pub loads_value : {R : ℕ} (d : Data) (t : Trace R) → IsEitherVersion d t → (r : Result (Book R) TraceFault) → Replays (λ (book : Book R). book_state book ≡ loaded_state t) t r → LoadsValue d r
loads_value d t is r h = grind (arith, marks_not_bad)

-- the fault of replaying the trace, passed up, is a result of loading the value
pub not_loaded : {R : ℕ} (d : Data) (t : Trace R) → IsEitherVersion d t → (fault : TraceFault) (r : Result (Book R) TraceFault) → IsErrAnd r (λ e. e ≡ fault)
    → Replays (λ (book : Book R). book_state book ≡ loaded_state t) t (Err fault) → LoadsValue d r
not_loaded d t is fault r told h = passed_up (LoadsValue d) r fault told (loads_value d t is (Err fault) h)
