-- The texts of lists, of events, of bookmarks and of a book, put together from parts; and that the
-- text of a value is read as that value.
use Rattle.rd_trace.proofs.Prelude.{◌≡◌, codes, decimal, escape_byte, ℕ, ◌+◌, ◌^◌, ◌<◌, ◌≤◌, nat_lt, Bool, true, false, ◌||◌, List, [], ◌∷◌, ◌++◌, length, take, Some, option_map, option_and_then, refl, sym, ap, ◌∙◌, subst, arith, append_assoc, append-nil, lt-ltb, if◌then◌else◌, is_ok, Result, OnOk, length-take-le, Option, Token, tokens, Data, array, unsigned, Items, no_items, item, depth, of_json, read, max_depth, outline, compact_text, items_text, comma_if, has_float, IsInOrder, SpellEach, items_by, Act, Event, event_pair, event_triple, event_array, event_data, book_object, joined_text, IsReadBack, IsSpelledBack, AreAppended}
use Rattle.std.specs.Fmt.{digits}
use Rattle.json.specs.Json as json
use Rattle.json.specs.Tree as tree
use Rattle.json.proofs.Numbered.{value-HasNumbers, ArePrintableOrBad-tokens}
use Rattle.json.proofs.Printed.Decimals.{IsNumber-decimal}
use Rattle.json.proofs.Printed.Trees.{value-json_tokens, ArePrintable-json_tokens}
use Rattle.serde_json.specs.Data.{number}
use Rattle.serde_json.proofs.Numbers.{number_of-decimal}
use Rattle.serde_json.proofs.Texts.{print-outline, tokens_from_order}
use Rattle.rd_trace.proofs.LexLemmas.{tokens-line}

-- ---- lists

-- the joined text of a list with one more value at its end
joined_more : {X : Type 0} (datum : X → Data) (later : Bool) (xs : List X) (x : X)
    → joined_text later (items_by datum (xs ++ x ∷ [])) ≡ joined_text later (items_by datum xs) ++ (comma_if (later || nat_lt 0 (length xs)) ++ compact_text (datum x))
joined_more datum later [] x = grind (arith, append-nil)
joined_more datum later (y ∷ ys) x = grind (arith, append_assoc, lt-ltb, joined_more datum true ys x)

-- the text of a list is its joined text and its closing bracket
pub items_text-joined : (later : Bool) (ds : Items) → items_text later ds ≡ joined_text later ds ++ 93 ∷ []
items_text-joined later no_items = refl
items_text-joined later (item d ds) = grind (arith, append_assoc, items_text-joined true ds)

module _ {X : Type 0} (Spells : Data → X → Type 0) where
  -- if each value spells its thing and is read back, the values spell the list of things, and the
  -- list of values is read back
  pub all_kept : (ds : Items) (xs : List X) → SpellEach (IsSpelledBack Spells) ds xs → SpellEach Spells ds xs × IsReadBack (array ds)
  all_kept no_items [] h = (tt, record { numbers = tt; back = refl })
  all_kept (item d ds) (x ∷ xs) h =
      let rest = all_kept ds xs h.1 in
      ((h.0.spelled, rest.0), record { numbers = (h.0.back.numbers, rest.1.numbers); back = grind (arith, option_and_then, option_map, h.0.back.back, rest.1.back) })
  all_kept _ _ h = absurd h

  module _ (datum : X → Data) where
    kept_more : (ys : List X) (x : X) → SpellEach (IsSpelledBack Spells) (items_by datum ys) ys → IsSpelledBack Spells (datum x) x
        → SpellEach (IsSpelledBack Spells) (items_by datum (ys ++ x ∷ [])) (ys ++ x ∷ [])
    kept_more [] x h k = (k, tt)
    kept_more (y ∷ ys) x h k = (h.0, kept_more ys x h.1 k)

    pub one_more_appended : (xs : List X) (i : ℕ) (x : X) (old mid new : List ℕ) → i ≤ length xs → take (i + 1) xs ≡ take i xs ++ x ∷ [] → AreAppended Spells datum (take i xs) old mid
        → new ≡ mid ++ (comma_if (nat_lt 0 i) ++ compact_text (datum x)) → IsSpelledBack Spells (datum x) x → AreAppended Spells datum (take (i + 1) xs) old new
    one_more_appended xs i x old mid new within next h is kept =
        let count = length-take-le i xs within in
        subst (λ (ys : List X). AreAppended Spells datum ys old new) (sym next)
        (record {
          text =
              grind (arith, append_assoc, joined_more);
          kept = kept_more (take i xs) x h.kept kept;
        })

-- ---- events

pub number_back : (n : ℕ) → n < 2 ^ 64 → IsReadBack (number (unsigned n))
number_back n fits = record { numbers = IsNumber-decimal n fits; back = ap (option_map number) (number_of-decimal n fits) }

pub event_pair_back : (word : List ℕ) (actor : ℕ) → actor < 2 ^ 64 → IsReadBack (event_pair word actor)
event_pair_back word actor fits = record { numbers = (tt, (IsNumber-decimal actor fits, tt)); back = rw (number_of-decimal actor fits) refl }

pub event_triple_back : (word : List ℕ) (actor : ℕ) (d : Data) → actor < 2 ^ 64 → IsReadBack d → IsReadBack (event_triple word actor d)
event_triple_back word actor d fits h = record { numbers = (tt, (IsNumber-decimal actor fits, (h.numbers, tt))); back = rw (number_of-decimal actor fits, h.back) refl }

pub event_array_back : (e : Event) (act : Act) → e.act ≡ act → IsReadBack (event_array e.actor act) → IsReadBack (event_data e)
event_array_back e act is = subst (λ a. IsReadBack (event_array e.actor a)) (sym is)

-- ---- books

-- the parts of the text of a book, one after the other
abbrev pub whole_text : Items → Items → ℕ → Data → Items → List ℕ
whole_text events marks cells start undone =
    (((((((((codes "{\"events\":[" ++ joined_text false events) ++ codes "],\"marks\":[") ++ joined_text false marks) ++ codes "],\"ring\":") ++ decimal cells) ++ codes ",\"start\":") ++ compact_text start)
    ++ codes ",\"undone\":[") ++ joined_text false undone) ++ codes "],\"version\":2}\n"

pub book_text : (events marks undone : Items) (cells : ℕ) (start : Data) → compact_text (book_object events marks cells start undone) ++ 10 ∷ [] ≡ whole_text events marks cells start undone
unfolding escape_byte digits
book_text events marks undone cells start = simp (items_text-joined false events, items_text-joined false marks, items_text-joined false undone, append_assoc)

-- ---- parts of a text

-- what follows if the last part was appended holds if the call that appends it succeeds
pub last_appended : {T E : Type 0} (r : Result T E) (old new part : List ℕ) (P : Type 0) → new ≡ (if is_ok r then old ++ part else old) → (new ≡ old ++ part → P) → OnOk r P
last_appended r old new part P is k = grind arith

-- two parts that are appended one after the other are appended together
pub appended_twice : (a b c p q : List ℕ) → b ≡ a ++ p → c ≡ b ++ q → c ≡ a ++ (p ++ q)
appended_twice a b c p q first second = second ∙ ap (λ s. s ++ q) first ∙ append_assoc a p q

-- two parts, the second appended by a call that may fail: if it succeeds, both are appended
-- together
pub both_appended : {T E : Type 0} (r : Result T E) (a b c p q : List ℕ) → b ≡ a ++ p → OnOk r (c ≡ b ++ q) → OnOk r (c ≡ a ++ (p ++ q))
both_appended r a b c p q first second = grind (arith, appended_twice)

pub book_back : (events marks undone : Items) (cells : ℕ) (start : Data) → cells < 2 ^ 64 → IsReadBack (array events) → IsReadBack (array marks) → IsReadBack start → IsReadBack (array undone)
    → IsReadBack (book_object events marks cells start undone)
book_back events marks undone cells start fits es ms s us = record {
  numbers = (es.numbers, (ms.numbers, (IsNumber-decimal cells fits, (s.numbers, (us.numbers, (IsNumber-decimal 2 (omega arith), tt))))));
  back = rw (es.back, ms.back, number_of-decimal cells fits, s.back, us.back, number_of-decimal 2 (omega arith)) refl;
}

-- ---- what is read

-- the value that was parsed; none if tokens are left after it
abbrev parsed : Option (json.Json × List Token) → Option Data
parsed o = option_and_then of_json (option_and_then (λ p. json.if_last p.0 p.1) o)

module _ (d : Data) (shallow : tree.depth (outline d) ≤ max_depth) where
  -- a text with the tokens of a value is parsed as the value's JSON tree
  tree_of : (text : List ℕ) → tokens text ≡ tree.json_tokens (outline d) → json.value max_depth (tokens text) ≡ Some (outline d, [])
  tree_of text same = ap (json.value max_depth) (same ∙ sym (append-nil _)) ∙ value-json_tokens (outline d) max_depth [] shallow

  -- the text of a value and a line feed are read as the value
  pub read_with_line_feed : IsReadBack d → read (compact_text d ++ 10 ∷ []) ≡ Some d
  read_with_line_feed h =
      let same = ap (λ s. tokens (s ++ 10 ∷ [])) (sym (print-outline d)) ∙ tokens-line (tree.json_tokens (outline d)) (ArePrintable-json_tokens (outline d) h.numbers) in
      ap parsed (tree_of (compact_text d ++ 10 ∷ []) same) ∙ h.back

  -- a value without floats is read back, if a text in its order is read as it
  pub back_of_text : (text : List ℕ) → IsInOrder text d → has_float d ≡ false → read text ≡ Some d → IsReadBack d
  back_of_text text order none reads =
      let same = tree_of text (tokens_from_order text d order none) in
      record { numbers = value-HasNumbers max_depth (tokens text) [] (outline d) (ArePrintableOrBad-tokens text) same; back = ap parsed (sym same) ∙ reads }
