-- What is kept under a key, and the three keys of an entry: of its place, of a cell's value half,
-- and of its segment.
use Rattle.rd_depend.proofs.Prelude.{◌≡◌, Bool, true, false, ◌&&◌, ◌||◌, Some, ap, ◌∙◌, arith, and_from, or_right, Entry, EntryKey, EntryKeys, Key, some_key_eq, is_under, is_kept_in, touched_or_written, entry_keys, key_eq-refl}

-- whether a key's list of all positions or of writes is to keep an entry by this one of the entry's
-- keys
abbrev pub is_home : EntryKey → Bool → Key → Bool
is_home h w q = is_kept_in w h.wrote && some_key_eq q h.key

-- the same by one of the entry's three keys
abbrev pub is_in : EntryKeys → Bool → Key → Bool
is_in h w q = (is_home h.place w q || is_home h.value w q) || is_home h.segment w q

-- a step is kept in just the lists of its three keys that are to keep it
pub is_under-is_in : (w : Bool) (q : Key) (x : Entry) → is_under q (touched_or_written w x) ≡ is_in (entry_keys x) w q
is_under-is_in w q x = grind arith

-- The keys differ

apart : (a b x y : Bool) → (x && y) ≡ false → ((a && x) && (b && y)) ≡ false
apart a b x y h = grind arith

either_apart : (p q r : Bool) → (p && r) ≡ false → (q && r) ≡ false → ((p || q) && r) ≡ false
either_apart p q r h k = grind arith

-- no list is that of two of an entry's keys
pub record AreSeparate (h : EntryKeys) : Type 0 where
  pub first : (w : Bool) (q : Key) → (is_home h.place w q && is_home h.value w q) ≡ false
  pub last : (w : Bool) (q : Key) → ((is_home h.place w q || is_home h.value w q) && is_home h.segment w q) ≡ false

pub separate : (h : EntryKeys) (x : Entry) → h ≡ entry_keys x → AreSeparate h
separate h x is = grind (arith, apart, either_apart)

pub home_own : (h : EntryKey) (w : Bool) (q : Key) → h.key ≡ Some q → is_kept_in w h.wrote ≡ true → is_home h w q ≡ true
home_own h w q e c = and_from (is_kept_in w h.wrote) (some_key_eq q h.key) c (ap (some_key_eq q) e ∙ key_eq-refl q)

first_false : (a b : Bool) → (a && b) ≡ false → b ≡ true → a ≡ false
first_false a b h k = grind arith

-- so no list of the second key is one of the first, and none of the third is one of the others
pub value_other : (h : EntryKeys) → AreSeparate h → (w : Bool) (q : Key) → h.value.key ≡ Some q → is_kept_in w h.value.wrote ≡ true → is_home h.place w q ≡ false
value_other h s w q e c = first_false (is_home h.place w q) (is_home h.value w q) (s.first w q) (home_own h.value w q e c)

pub segment_other : (h : EntryKeys) → AreSeparate h → (w : Bool) (q : Key) → h.segment.key ≡ Some q → is_kept_in w h.segment.wrote ≡ true
    → (is_home h.place w q ≡ false) × (is_home h.value w q ≡ false)
segment_other h s w q e c = grind (arith, home_own)

-- a list of one of the keys is one of the three keys'

pub in_place : (h : EntryKeys) (w : Bool) (q : Key) → h.place.key ≡ Some q → is_kept_in w h.place.wrote ≡ true → is_in h w q ≡ true
in_place h w q e c = grind arith

pub in_value : (h : EntryKeys) (w : Bool) (q : Key) → h.value.key ≡ Some q → is_kept_in w h.value.wrote ≡ true → is_in h w q ≡ true
in_value h w q e c = grind (arith, home_own)

pub in_segment : (h : EntryKeys) (w : Bool) (q : Key) → h.segment.key ≡ Some q → is_kept_in w h.segment.wrote ≡ true → is_in h w q ≡ true
in_segment h w q e c = or_right (is_home h.place w q || is_home h.value w q) (is_home h.segment w q) (home_own h.segment w q e c)
