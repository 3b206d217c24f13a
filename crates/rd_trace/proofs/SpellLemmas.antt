-- Reading a value by reading a part of it; and lists of values: what they spell, and their lengths.
use Rattle.rd_trace.proofs.Prelude.{◌≡◌, ℕ, suc, ◌+◌, ◌<◌, List, [], ◌∷◌, ◌++◌, length, take, drop, get_or, slice_get, Option, Some, IfSome, IfNone, ok_or, Result, Err, refl, sym, ap, ap₂, ◌∙◌, subst, map, map-id, arith, IsErrAnd, same_Some, take_more, drop_more, take-append-drop, Data, Items, no_items, item, view, items_view, Reads, itself, Gives, SpellEach, items_by, AreSpelled, TraceFault, BadTrace, get_or_from_slice_get, slice_get-get_or, slice_get_within, Value}

-- ---- faults

-- what holds of a fault holds of the result with which `?` passes it up
pub passed_up : {T E : Type 0} (P : Result T E → Type 0) (r : Result T E) (x : E) → IsErrAnd r (λ e. e ≡ x) → P (Err x) → P r
passed_up P r x is k = grind arith

-- where a whole that is spelled has a part that is spelled, the fault of reading the part is a
-- result of reading the whole
module _ {V W X Y : Type 0} (part : V → X) (whole : W → Y) (IsPart : X → Type 0) (IsWhole : Y → Type 0) (has : (y : Y) → IsWhole y → (x : X) × IsPart x) where
  -- the fault of the part, passed up, is a result of reading the whole
  pub part_passed_up : (fault : TraceFault) (r : Result W TraceFault) → IsErrAnd r (λ e. e ≡ fault) → Reads part IsPart (Err fault) → Reads whole IsWhole r
  part_passed_up fault r is h = grind arith

-- a result that is an option's value, or `BadTrace` if the option is none
pub read_or_bad : {X : Type 0} (o : Option X) (r : Result X TraceFault) → r ≡ ok_or o BadTrace → (P : X → Type 0) → IfSome o P → IfNone o ((x : X) → P x → ⊥) → Reads itself P r
read_or_bad o r is P some none = grind arith

-- ---- lists of values

-- items with one more item at their end
abbrev then_item : Items → Data → Items
then_item no_items d = item d no_items
then_item (item x xs) d = item x (then_item xs d)

items_view-last : (vs : List Value) (v : Value) → items_view (vs ++ v ∷ []) ≡ then_item (items_view vs) (view v)
items_view-last [] v = refl
items_view-last (x ∷ vs) v = ap (item (view x)) (items_view-last vs v)

items_by-last : {X : Type 0} (datum : X → Data) (xs : List X) (x : X) → items_by datum (xs ++ x ∷ []) ≡ then_item (items_by datum xs) (datum x)
items_by-last datum [] x = refl
items_by-last datum (y ∷ xs) x = ap (item (datum y)) (items_by-last datum xs x)

-- a list is its first elements, the element at a position, and those after it
pub split_at : {X : Type 0} (xs : List X) (i : ℕ) (x : X) → i < length xs → x ≡ get_or xs i x → xs ≡ take i xs ++ x ∷ drop (i + 1) xs
split_at xs i x within is = grind (arith, take-append-drop, drop_more)

pub take_item : {X : Type 0} (xs : List X) (i : ℕ) (x : X) → i < length xs → x ≡ get_or xs i x → take (i + 1) xs ≡ take i xs ++ x ∷ []
take_item xs i x within is = grind (arith, take_more)

-- the first i + 1 elements are the first i and the element that `slice_get` gives at i
pub take_got : {X : Type 0} (xs : List X) (i : ℕ) (x : X) → slice_get xs i ≡ Some x → take (i + 1) xs ≡ take i xs ++ x ∷ []
take_got xs i x h = take_item xs i x (slice_get_within xs i x h) (sym (get_or_from_slice_get xs i x x h))

pub some_got : {X : Type 0} (xs : List X) (i : ℕ) → i < length xs → ((x : X) → slice_get xs i ≡ Some x → ⊥) → ⊥
some_got [] i within none = omega arith
some_got (x ∷ xs) i within none = none _ (slice_get-get_or (x ∷ xs) i x within)

pub items_written : {X : Type 0} (datum : X → Data) (vs : List Value) (xs : List X) (v : Value) (x : X) → items_view vs ≡ items_by datum xs → view v ≡ datum x
    → items_view (vs ++ v ∷ []) ≡ items_by datum (xs ++ x ∷ [])
items_written datum vs xs v x so_far is = items_view-last vs v ∙ ap₂ then_item so_far is ∙ sym (items_by-last datum xs x)

module _ {X : Type 0} (Spells : Data → X → Type 0) where
  spell_each-last : (ds : Items) (d : Data) (xs : List X) (x : X) → SpellEach Spells ds xs → Spells d x → SpellEach Spells (then_item ds d) (xs ++ x ∷ [])
  spell_each-last no_items d [] x h k = (k, tt)
  spell_each-last (item e ds) d (y ∷ xs) x h k = (h.0, spell_each-last ds d xs x h.1 k)
  spell_each-last _ d _ x h k = absurd h

  -- if values spell a list, a value among them spells one of its elements, and those before it the
  -- elements before
  pub spelled_here : (vs ws : List Value) (v : Value) (xs : List X) → SpellEach Spells (items_view (vs ++ v ∷ ws)) xs
      → (before : List X) × (x : X) × (more : List X) × (xs ≡ before ++ x ∷ more) × SpellEach Spells (items_view vs) before × Spells (view v) x
  spelled_here [] ws v (x ∷ xs) h = ([], x, xs, refl, tt, h.0)
  spelled_here (y ∷ vs) ws v (x ∷ xs) h = let rest = spelled_here vs ws v xs h.1 in (x ∷ rest.0, rest.1, rest.2, ap (λ l. x ∷ l) rest.3, (h.0, rest.4), rest.5)
  spelled_here _ ws v _ h = absurd h

  -- values spell a list of as many things as they are
  pub spelled_length : (vs : List Value) (xs : List X) → SpellEach Spells (items_view vs) xs → length vs ≡ length xs
  spelled_length [] [] h = refl
  spelled_length (v ∷ vs) (x ∷ xs) h = ap suc (spelled_length vs xs h.1)
  spelled_length _ _ h = absurd h

  module _ (vs : List Value) (i : ℕ) (v : Value) (within : i < length vs) (is : v ≡ get_or vs i v) where
    -- the first i + 1 values spell what the first i spell, and then what the next one spells
    pub spell_each-more : (xs : List X) (x : X) → SpellEach Spells (items_view (take i vs)) xs → Spells (view v) x → SpellEach Spells (items_view (take (i + 1) vs)) (xs ++ x ∷ [])
    spell_each-more xs x h k =
        subst (λ ds. SpellEach Spells ds (xs ++ x ∷ [])) (sym (ap items_view (take_item vs i v within is) ∙ items_view-last (take i vs) v))
        (spell_each-last (items_view (take i vs)) (view v) xs x h k)

    -- if values spell a list, the value at a position spells one of its elements, and those before
    -- it the elements before
    pub spelled_at : (xs : List X) → SpellEach Spells (items_view vs) xs
        → (before : List X) × (x : X) × (more : List X) × (xs ≡ before ++ x ∷ more) × SpellEach Spells (items_view (take i vs)) before × Spells (view v) x
    spelled_at xs h = spelled_here (take i vs) (drop (i + 1) vs) v xs (subst (λ ws. SpellEach Spells (items_view ws) xs) (split_at vs i v within is) h)

    -- values among which one spells nothing spell no list
    pub spell_each-none : ((x : X) → Spells (view v) x → ⊥) → (xs : List X) → SpellEach Spells (items_view vs) xs → ⊥
    spell_each-none never xs h = let here = spelled_at xs h in never here.1 here.5

  -- ---- lists that are written

  module _ (datum : X → Data) where
    pub none_written : (vs : List Value) → vs ≡ [] → AreSpelled Spells datum vs []
    none_written vs e = record { values = ap items_view e; spelled = tt }

    pub one_more_written : (vs : List Value) (xs : List X) (v : Value) (x : X) → AreSpelled Spells datum vs xs → view v ≡ datum x → Spells (datum x) x
        → AreSpelled Spells datum (vs ++ v ∷ []) (xs ++ x ∷ [])
    one_more_written vs xs v x h is spells = record {
      values = items_written datum vs xs v x h.values is;
      spelled = subst (λ ds. SpellEach Spells ds (xs ++ x ∷ [])) (sym (items_by-last datum xs x)) (spell_each-last (items_by datum xs) (datum x) xs x h.spelled spells);
    }

-- ---- lists whose values spell one thing at most

-- if all things that a value spells are seen as the same, so are all lists that values spell
module _ {X Y : Type 0} (Spells : Data → X → Type 0) (seen : X → Y) (one : (d : Data) (x y : X) → Spells d x → Spells d y → seen x ≡ seen y) where
  same_seen : (ds : Items) (xs ys : List X) → SpellEach Spells ds xs → SpellEach Spells ds ys → map seen xs ≡ map seen ys
  same_seen no_items [] [] h k = refl
  same_seen (item d ds) (x ∷ xs) (y ∷ ys) h k = ap₂ (λ z zs. z ∷ zs) (one d x y h.0 k.0) (same_seen ds xs ys h.1 k.1)
  same_seen _ _ _ h k = absurd (omega arith)

  pub same_seen_at : (o : Option Items) (xs ys : List X) → (ds : Items) × (o ≡ Some ds) × SpellEach Spells ds xs → (ds : Items) × (o ≡ Some ds) × SpellEach Spells ds ys
      → map seen xs ≡ map seen ys
  same_seen_at o xs ys (ds, is, each) (es, also, each_too) = same_seen es xs ys (subst (λ z. SpellEach Spells z xs) (same_Some ds es (sym is ∙ also)) each) each_too

module _ {X : Type 0} (Spells : Data → X → Type 0) (one : (d : Data) (x y : X) → Spells d x → Spells d y → x ≡ y) where
  pub same_each : (ds : Items) (xs ys : List X) → SpellEach Spells ds xs → SpellEach Spells ds ys → xs ≡ ys
  same_each ds xs ys h k = sym (map-id xs) ∙ same_seen Spells itself one ds xs ys h k ∙ map-id ys

  pub same_each_at : (o : Option Items) (xs ys : List X) → (ds : Items) × (o ≡ Some ds) × SpellEach Spells ds xs → (ds : Items) × (o ≡ Some ds) × SpellEach Spells ds ys → xs ≡ ys
  same_each_at o xs ys h k = sym (map-id xs) ∙ same_seen_at Spells itself one o xs ys h k ∙ map-id ys

-- a function gives at most one thing for a JSON value
pub one_given : {X : Type 0} (f : Data → Option X) (d : Data) (x y : X) → Gives f d x → Gives f d y → x ≡ y
one_given f d x y h k = same_Some x y (sym h ∙ k)
