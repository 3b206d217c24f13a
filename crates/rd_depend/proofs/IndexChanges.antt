-- The calls of an index, put together from their changes of its lists.
use Rattle.rd_depend.proofs.Prelude.{◌≡◌, ℕ, zero, suc, ◌+◌, ◌-◌, ◌<◌, ◌≤◌, Bool, true, false, ◌==◌, if◌then◌else◌, List, [], ◌∷◌, ◌++◌, length, take, drop, Option, Some, slice_get, refl, sym, ap, subst, ◌∙◌, append_assoc, arith, length-append, eq-eqb, rules, Entry, DependIndex, EntryKey, EntryKeys, Key, Table, Lists, list_at, spare_at, cond, kept_in, spare_in, is_kept_in, IsReadyIfSome, KeepsLists, Puts, RemovesLast, HasLast, ListKey, By, Under, is_listed_for, kept, spare, count_by, IsIndexOf, HasRoomFor, GivesRoom, UsesRoom, entry_keys, Adds, KeepsPositions, EndsWith}
use Rattle.rd_depend.proofs.Elements.{take-element, drop-element}
use Rattle.rd_depend.proofs.IndexKeys.{is_home, is_in, is_under-is_in, separate}
use Rattle.rd_depend.proofs.IndexPositions.{positions-push, positions-pop, count_by-append, count_by-cons}

-- what is ready stays ready if no list changes
pub ready_kept : (t u : Table) (k : Option Key) (wrote : Bool) (row : Option ℕ) → KeepsLists t u → IsReadyIfSome t k wrote row → IsReadyIfSome u k wrote row
ready_kept t u k wrote row keeps ready = grind arith

-- what is ready under one key stays ready if a position is put under another
pub ready_after : (t u : Table) (s : Option Key) (wrote : Bool) (h : EntryKey) (p : ℕ) (row : Option ℕ)
    → ((w : Bool) (q : Key) → s ≡ Some q → is_kept_in w wrote ≡ true → is_home h w q ≡ false)
    → IsReadyIfSome t s wrote row → Puts h.key h.wrote p t u → IsReadyIfSome u s wrote row
ready_after t u s wrote h p row apart ready put = grind arith

-- a list that has a last position keeps it if one is removed under another key
pub last_after : (t u : Table) (s : Option Key) (wrote : Bool) (h : EntryKey)
    → ((w : Bool) (q : Key) → s ≡ Some q → is_kept_in w wrote ≡ true → is_home h w q ≡ false)
    → HasLast t s wrote → RemovesLast h.key h.wrote t u → HasLast u s wrote
last_after t u s wrote h apart has took = grind arith

pub adds : (old new : DependIndex) (x : Entry) (h : EntryKeys) (one two : Table) (p actor : ℕ) → h ≡ entry_keys x → actor ≡ x.event.actor → p ≡ old.len + 1
    → new.len ≡ old.len + 1
    → ((i : ℕ) → list_at new.by_actor.items i ≡ (if i == actor then list_at old.by_actor.items i ++ p ∷ [] else list_at old.by_actor.items i))
    → ((i : ℕ) → spare_at old.by_actor.items i ≤ spare_at new.by_actor.items i + cond (i == actor) 1 0)
    → Puts h.place.key h.place.wrote p old.by_key one → Puts h.value.key h.value.wrote p one two → Puts h.segment.key h.segment.wrote p two new.by_key
    → Adds x old new
adds old new x h one two p actor homes same is len lists_by room_by a b c = grind arith

-- the index lost its last entry, which is this one: each list that kept it lost its last position
-- and has room for one more, and each other list is as before
pub record Drops (x : Entry) (old new : DependIndex) : Type 0 where
  pub lists : (t : ListKey) → kept new t ≡ (if is_listed_for t x then take (length (kept old t) - 1) (kept old t) else kept old t)
  pub room : (t : ListKey) → spare new t ≡ spare old t + cond (is_listed_for t x) 1 0
  pub len : new.len + 1 ≡ old.len

pub drops : (old new : DependIndex) (x : Entry) (h : EntryKeys) (one two : Table) (actor : ℕ) → h ≡ entry_keys x → actor ≡ x.event.actor → new.len + 1 ≡ old.len
    → ((i : ℕ) → list_at new.by_actor.items i ≡ (if i == actor then take (length (list_at old.by_actor.items i) - 1) (list_at old.by_actor.items i) else list_at old.by_actor.items i))
    → ((i : ℕ) → spare_at new.by_actor.items i ≡ spare_at old.by_actor.items i + cond (i == actor) 1 0)
    → RemovesLast h.place.key h.place.wrote old.by_key one → RemovesLast h.value.key h.value.wrote one two
    → RemovesLast h.segment.key h.segment.wrote two new.by_key → Drops x old new
drops old new x h one two actor homes same len lists_by room_by a b c =
    let s = separate h x homes in
    record { lists = λ t. search (rules, arith); room = λ t. grind arith; len = len }

-- where there was room

pub within_spare : (lists : Lists) (i : ℕ) → 0 < spare_at lists i → i < length lists
within_spare (v ∷ vs) (suc i) h = let rest : i < length vs = within_spare vs i h in omega arith
within_spare lists i h = grind arith

pub touched_by : (x : Entry) → is_listed_for (By x.event.actor) x ≡ true
touched_by x = eq-eqb x.event.actor x.event.actor refl

-- what first made room and then added an entry, added the entry
pub then_adds : (old mid new : DependIndex) (x : Entry) → KeepsPositions old mid → Adds x mid new → Adds x old new
then_adds old mid new x keeps more = grind arith

-- the index of the entries, after the calls

pub added : (old new : DependIndex) (x : Entry) (es : List Entry) → Adds x old new → IsIndexOf old es → IsIndexOf new (es ++ x ∷ [])
added old new x es more is = grind (arith, positions-push, length-append)

pub dropped : (old new : DependIndex) (x : Entry) (es : List Entry) → Drops x old new → IsIndexOf old (es ++ x ∷ []) → IsIndexOf new es
dropped old new x es drop_x is = record {
  lists = λ t. drop_x.lists t ∙ positions-pop (is_listed_for t) es x (kept old t) (is.lists t);
  len = omega (arith, length-append es (x ∷ []));
}

pub gives_room : (old new : DependIndex) (x : Entry) → Drops x old new → GivesRoom old new (x ∷ [])
gives_room old new x drop_x = λ t. omega (arith, drop_x.room t)

-- what the calls ask for

pub last_touched : (old : DependIndex) (x : Entry) → EndsWith old (x ∷ []) → (t : ListKey) → is_listed_for t x ≡ true → 1 ≤ length (kept old t)
last_touched old x last t h = grind (arith, positions-push, length-append)

touched_in : (x : Entry) (h : EntryKeys) → h ≡ entry_keys x → (w : Bool) (q : Key) → is_in h w q ≡ true → is_listed_for (Under w q) x ≡ true
touched_in x h homes w q e = is_under-is_in w q x ∙ ap (λ (g : EntryKeys). is_in g w q) (sym homes) ∙ e

pub last_under : (old : DependIndex) (x : Entry) (h : EntryKeys) → h ≡ entry_keys x → EndsWith old (x ∷ []) → (w : Bool) (q : Key) → is_in h w q ≡ true
    → 1 ≤ length (kept_in old.by_key w q)
last_under old x h homes last w q e = last_touched old x last (Under w q) (touched_in x h homes w q e)

pub spare_under : (old : DependIndex) (x : Entry) (h : EntryKeys) → h ≡ entry_keys x → ((t : ListKey) → is_listed_for t x ≡ true → 0 < spare old t)
    → (w : Bool) (q : Key) → is_in h w q ≡ true → 0 < spare_in old.by_key w q
spare_under old x h homes has w q e = has (Under w q) (touched_in x h homes w q e)

-- several entries

-- what pushes have done after the first n entries: these are in the index, and have used their room
-- at most
pub record HasAdded (start now : DependIndex) (entries : List Entry) (n : ℕ) : Type 0 where
  pub index : (es : List Entry) → IsIndexOf start es → IsIndexOf now (es ++ take n entries)
  pub room : (t : ListKey) → spare start t ≤ spare now t + count_by (is_listed_for t) (take n entries)

-- one more push leaves what pushes do
pub one_added : (start old new : DependIndex) (entries : List Entry) (n : ℕ) (x : Entry) → slice_get entries n ≡ Some x → HasAdded start old entries n
    → ((es : List Entry) → IsIndexOf old es → IsIndexOf new (es ++ x ∷ [])) → UsesRoom old new (x ∷ []) → HasAdded start new entries (n + 1)
one_added start old new entries n x there was more used =
    let next : n + 1 ≡ suc n = omega arith in
    let longer : take (n + 1) entries ≡ take n entries ++ x ∷ [] = ap (λ (m : ℕ). take m entries) next ∙ take-element entries n x there in
    record {
      index = λ es is.
          let e : (es ++ take n entries) ++ x ∷ [] ≡ es ++ take (n + 1) entries = append_assoc es (take n entries) (x ∷ []) ∙ ap (λ (l : List Entry). es ++ l) (sym longer) in
          subst (λ (l : List Entry). IsIndexOf new l) e (more (es ++ take n entries) (was.index es is));
      room = λ t. omega (arith, ap (count_by (is_listed_for t)) longer, count_by-append (is_listed_for t) (take n entries) (x ∷ []), was.room t, used t);
    }

-- an entry that passes the test is counted beside those before it
count_by-among : (test : Entry → Bool) (es : List Entry) (n : ℕ) (x : Entry) → slice_get es n ≡ Some x → count_by test (take n es) + cond (test x) 1 0 ≤ count_by test es
count_by-among test (y ∷ ys) (suc n) x h = omega (arith, count_by-cons test y (take n ys), count_by-cons test y ys, count_by-among test ys n x h)
count_by-among test (y ∷ ys) zero x h = grind (arith, count_by-cons test y ys)
count_by-among test [] n x h = cc

-- if there was room for all of the entries, there is room for the next one
pub room_next : (start now : DependIndex) (entries : List Entry) (n : ℕ) (x : Entry) → slice_get entries n ≡ Some x → HasRoomFor start entries
    → HasAdded start now entries n → HasRoomFor now (x ∷ [])
room_next start now entries n x there has was = record { lists = λ t. omega (arith, count_by-among (is_listed_for t) entries n x there, has.lists t, was.room t) }

-- what pops have done with the entries after the first `left`: these are out of the index, and have
-- given their room back
pub record HasDropped (start now : DependIndex) (entries : List Entry) (left : ℕ) : Type 0 where
  pub index : (es : List Entry) → IsIndexOf start (es ++ entries) → IsIndexOf now (es ++ take left entries)
  pub room : (t : ListKey) → spare now t ≡ spare start t + count_by (is_listed_for t) (drop left entries)

-- while pops have left some of the entries, the index ends with the last one left
pub last_left : (start now : DependIndex) (entries : List Entry) (left n : ℕ) (x : Entry) → left ≡ suc n → slice_get entries n ≡ Some x → EndsWith start entries
    → HasDropped start now entries left → EndsWith now (x ∷ [])
last_left start now entries left n x next there ends was = record {
  before = ends.before ++ take n entries;
  is = grind (arith, take-element, append_assoc);
}

-- one more pop leaves what pops do
pub one_dropped : (start old new : DependIndex) (entries : List Entry) (left n : ℕ) (x : Entry) → left ≡ suc n → slice_get entries n ≡ Some x
    → HasDropped start old entries left → ((es : List Entry) → IsIndexOf old (es ++ x ∷ []) → IsIndexOf new es) → GivesRoom old new (x ∷ [])
    → HasDropped start new entries n
one_dropped start old new entries left n x next there was left_out gives = record {
  index = λ es is. left_out (es ++ take n entries) (grind (arith, take-element entries n x there, append_assoc, was.index es is));
  room = λ t.
      omega (
        arith,
        ap (count_by (is_listed_for t)) (drop-element entries n x there),
        count_by-cons (is_listed_for t) x (drop (suc n) entries),
        ap (λ (m : ℕ). count_by (is_listed_for t) (drop m entries)) next,
        was.room t,
        gives t,
      );
}

pub last_len : (old : DependIndex) (x : Entry) → EndsWith old (x ∷ []) → 1 ≤ old.len
last_len old x last = omega (arith, length-append last.before (x ∷ []))
