-- Bookmarks as JSON values.
use Rattle.rd_trace.proofs.Prelude.{◌≡◌, items_by, ℕ, nat_eq, nat_lt, ◌+◌, ◌<◌, ◌≤◌, true, false, ◌||◌, List, [], ◌∷◌, ◌++◌, map, Bool, length, get_or, take, drop, slice_get, codes, Decides, Option, Some, None, ok_or, option_map, IfSome, Ok, inl, inr, refl, sym, ap, ap₂, ◌∙◌, subst, arith, append_assoc, AllByRecursion, list_any, list_all, IsDistinct, and_parts, or_cases, eqb-true, true≢false, false≢true, same_Some, map_push, take_all, IsDistinct-head, IsDistinct-tail, IsDistinct-push, escape, escape_byte, escape_byte_plain, Data, view, items_view, compact_text, comma_if, MarkName, Event, MOST_MARKS, is_name_byte, is_mark_name, bytes_of, mark_name_eq, HaveDifferentNames, Mark, result_map, Gives, SpellEach, event_of, event_data, SpellsMark, SpellMarksOfBook, saved_mark, mark_data, AreAppended, IsMarkAppended, SavedMark, name_and_length, slice_get_within, Value, bytes_eq-Decides}
use Rattle.std.specs.Cmp.{IsEquivalence}
use Rattle.rd_trace.proofs.SpellLemmas.{split_at, take_got, spelled_at, spelled_length, spell_each-more}
use Rattle.rd_trace.proofs.TextLemmas.{all_kept, items_text-joined, one_more_appended, appended_twice}
use Rattle.rd_cell.specs.declared.refusal.Refusal.TheVariants as refusal

-- ---- names

-- `mark_name_eq` decides whether two names have the same bytes
name_decides : (a b : MarkName) → Decides (mark_name_eq a b) (bytes_of a ≡ bytes_of b)
name_decides a b = bytes_eq-Decides (bytes_of a) (bytes_of b)

name_laws : IsEquivalence mark_name_eq
name_laws = grind (arith, name_decides, nat_eq)

-- all bookmarks that a JSON value spells have one name
one_name : (d : Data) (m n : Mark) → SpellsMark d m → SpellsMark d n → bytes_of m.name ≡ bytes_of n.name
one_name d m n h k = same_Some _ _ (sym h.name ∙ k.name)

-- ---- lists that are read

-- if a bookmark's name differs from all names that these values spell, it differs from the name
-- that a value among them spells
apart_later : (q o : Mark) (xs ws : List Value) (v : Value) → SpellsMark (view v) o → (ms : List Mark) → SpellEach SpellsMark (items_view (xs ++ v ∷ ws)) ms
    → AllByRecursion (λ name. mark_name_eq q.name name ≡ false) (map (λ m. m.name) ms) → bytes_of q.name ≡ bytes_of o.name → ⊥
apart_later q o [] ws v is (m ∷ ms) h apart same = true≢false (sym ((name_decides q.name m.name).1 (same ∙ one_name (view v) o m is h.0)) ∙ apart.0)
apart_later q o (x ∷ xs) ws v is (m ∷ ms) h apart same = apart_later q o xs ws v is ms h.1 apart.1 same
apart_later q o _ ws v is _ h apart same = absurd h

-- if a value spells a bookmark with a name that an earlier value's bookmark has, the values spell
-- no bookmarks with different names
taken_twice : (xs ws : List Value) (v : Value) (os : List Mark) (o : Mark) → SpellEach SpellsMark (items_view xs) os → SpellsMark (view v) o
    → list_any (λ m. mark_name_eq o.name m.name) os ≡ true → (ms : List Mark) → SpellEach SpellsMark (items_view (xs ++ v ∷ ws)) ms
    → IsDistinct mark_name_eq (map (λ m. m.name) ms) → ⊥
taken_twice [] ws v [] o ours is taken ms h distinct = false≢true taken
taken_twice (x ∷ xs) ws v (p ∷ os) o ours is taken [] h distinct = h
taken_twice (x ∷ xs) ws v (p ∷ os) o ours is taken (m ∷ ms) h distinct =
    elim (or_cases _ _ taken) [
      | inl e ↦
          apart_later m o xs ws v is ms h.1 (IsDistinct-head mark_name_eq m.name (map (λ n. n.name) ms) distinct)
          (one_name (view x) m p h.0 ours.0 ∙ sym ((name_decides o.name p.name).0 e))
      | inr e ↦ taken_twice xs ws v os o ours.1 is e ms h.1 (IsDistinct-tail mark_name_eq m.name (map (λ n. n.name) ms) distinct)
    ]
taken_twice _ ws v _ o ours is taken ms h distinct = absurd ours

any_of_map : {X Y : Type 0} (f : X → Y) (test : Y → Bool) (xs : List X) → list_any test (map f xs) ≡ list_any (λ x. test (f x)) xs
any_of_map f test [] = refl
any_of_map f test (x ∷ xs) = ap (λ b. test (f x) || b) (any_of_map f test xs)

-- the first i values of a list spell these bookmarks, which have different names
pub record AreRead (vs : List Value) (i : ℕ) (marks : List SavedMark) : Type 0 where
  pub each : SpellEach SpellsMark (items_view (take i vs)) (map saved_mark marks)
  pub names : HaveDifferentNames (map saved_mark marks)

pub none_read : (vs : List Value) (marks : List SavedMark) → marks ≡ [] → AreRead vs 0 marks
unfolding IsDistinct
none_read vs marks e = subst (λ (ms : List SavedMark). AreRead vs 0 ms) (sym e) (record { each = tt; names = tt })

module _ (vs : List Value) (i : ℕ) (v : Value) (within : i < length vs) (is : v ≡ get_or vs i v) where
  -- if the values of a list spell bookmarks, the value at a position spells one
  pub mark_here : (ms : List Mark) → SpellMarksOfBook (items_view vs) ms → (m : Mark) × SpellsMark (view v) m
  mark_here ms k = let here = spelled_at SpellsMark vs i v within is ms k.each in (here.1, here.5)

  module _ (marks : List SavedMark) (so_far : AreRead vs i marks) (m : SavedMark) (spells : SpellsMark (view v) (saved_mark m)) where
    -- if the name of the value's bookmark is taken, the list spells no bookmarks with different
    -- names
    pub name_taken : list_any (λ o. mark_name_eq m.name o.name) marks ≡ true → (ms : List Mark) → SpellMarksOfBook (items_view vs) ms → ⊥
    name_taken taken ms k =
        taken_twice (take i vs) (drop (i + 1) vs) v (map saved_mark marks) (saved_mark m) so_far.each spells (any_of_map saved_mark (λ o. mark_name_eq m.name o.name) marks ∙ taken) ms
        (subst (λ (xs : List Value). SpellEach SpellsMark (items_view xs) ms) (split_at vs i v within is) k.each) k.names

    -- if the name of the value's bookmark isn't taken, one more bookmark was read
    pub one_more_mark : list_any (λ o. mark_name_eq m.name o.name) marks ≡ false → AreRead vs (i + 1) (marks ++ m ∷ [])
    one_more_mark free = grind (arith, spell_each-more, map_push, IsDistinct-push, name_laws, any_of_map)

-- if all values were read, the list spells the bookmarks that were read
pub all_read : (vs : List Value) (i : ℕ) (marks : List SavedMark) → length vs ≤ i → length vs ≤ MOST_MARKS → AreRead vs i marks → SpellMarksOfBook (items_view vs) (map saved_mark marks)
all_read vs i marks past few h = grind (arith, take_all, spelled_length)

-- a list of more values than there may be bookmarks spells none
pub too_many : (vs : List Value) → MOST_MARKS < length vs → (ms : List Mark) → SpellMarksOfBook (items_view vs) ms → ⊥
too_many vs many ms h = omega (arith, many, h.few, spelled_length SpellsMark vs ms h.each)

-- ---- lists that are written

-- the texts of the first i bookmarks, and then the text of the next one, are the texts of i + 1
pub next_appended : (ms : List Mark) (i : ℕ) (name : MarkName) (len : ℕ) (old mid comma new : List ℕ) → AreAppended SpellsMark mark_data (take i ms) old mid → comma ≡ mid ++ comma_if (nat_lt 0 i)
    → (o : Option Mark) → slice_get ms i ≡ o → result_map name_and_length (ok_or o refusal.NoMark) ≡ Ok (name, len)
    → IfSome (option_map (λ m. m.events) o) (λ es. IsMarkAppended (record { name = name; events = es }) comma new) → AreAppended SpellsMark mark_data (take (i + 1) ms) old new
next_appended ms i name len old mid comma new so_far more None there found h = absurd (cc)
next_appended ms i name len old mid comma new so_far more (Some m) there found h =
    let both : (m.name, length m.events) ≡ (name, len) = cc in
    let same : m.name ≡ name = ap (λ (p : MarkName × ℕ). p.0) both in
    let is : IsMarkAppended m comma new = subst (λ (n : MarkName). IsMarkAppended (record { name = n; events = m.events }) comma new) (sym same) h in
    one_more_appended SpellsMark mark_data ms i m old mid new (omega (arith, slice_get_within ms i m there)) (take_got ms i m there) so_far
    (appended_twice mid comma new (comma_if (nat_lt 0 i)) (compact_text (mark_data m)) more is.text) is.kept

plain_byte : (x : ℕ) → is_name_byte x ≡ true → escape_byte x ≡ x ∷ []
plain_byte x h = grind (arith, or_cases, eqb-true, escape_byte_plain)

name_bytes : (bytes : List ℕ) → is_mark_name bytes ≡ true → list_all is_name_byte bytes ≡ true
name_bytes bytes h = (and_parts _ _ h).1

plain_name : (bytes : List ℕ) → list_all is_name_byte bytes ≡ true → escape bytes ≡ bytes
plain_name [] h = refl
plain_name (x ∷ xs) h =
    let p = and_parts (is_name_byte x) _ h in
    ap₂ (λ (ys zs : List ℕ). ys ++ zs) (plain_byte x p.0) (plain_name xs p.1)

-- the text of a bookmark consists of the texts of its events and its name, with fixed text around
-- them
pub mark_appended : (name : MarkName) (es : List Event) (old t u v w new : List ℕ) → t ≡ old ++ codes "{\"events\":[" → AreAppended (Gives event_of) event_data es t u
    → v ≡ u ++ codes "],\"name\":\"" → w ≡ v ++ bytes_of name → new ≡ w ++ codes "\"}" → IsMarkAppended (record { name = name; events = es }) old new
unfolding escape_byte
mark_appended name es old t u v w new opened events between named closed =
    let plain = plain_name (bytes_of name) (name_bytes (bytes_of name) name.valid) in
    record {
      text = simp (closed, named, between, events.text, opened, items_text-joined false (items_by event_data es), plain, append_assoc);
      kept = record {
        spelled = record { members = refl; name = refl; events = (items_by event_data es, refl, (all_kept (Gives event_of) (items_by event_data es) es events.kept).0) };
        back = grind (arith, all_kept);
      };
    }
